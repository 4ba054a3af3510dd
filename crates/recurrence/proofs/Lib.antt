pub mod Causal
pub mod EquationTurns
