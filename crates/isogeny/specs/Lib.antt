pub mod Curve
pub mod Rules
pub mod Expansion
pub mod Solution
pub mod Kernel
pub mod Velu
pub mod Source
