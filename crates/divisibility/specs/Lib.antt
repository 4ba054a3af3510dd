pub mod Division
pub mod Divides
pub mod Congruence
pub mod Coprime
pub mod Fraction
pub mod Gcd
pub mod Irreducible
