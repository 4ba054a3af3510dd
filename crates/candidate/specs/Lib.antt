pub mod Candidate
pub mod Equations
