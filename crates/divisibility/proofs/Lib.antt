pub mod Coprime
pub mod Division
pub mod Gcd
pub mod Irreducible
