pub mod Outcome
pub mod Abscissas
pub mod Countable
pub mod Asked
pub mod Answer
pub mod Numerators
pub mod Composed
pub mod Certificates
