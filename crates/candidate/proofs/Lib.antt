pub mod Causal
pub mod Products
pub mod EquationTurns
pub mod Only
