pub mod Remainder
pub mod Zmod
pub mod Prime
pub mod Natural
pub mod Residues
pub mod Fermat
pub mod Calculation
