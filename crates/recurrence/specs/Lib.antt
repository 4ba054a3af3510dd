pub mod Equations
pub mod Expands
