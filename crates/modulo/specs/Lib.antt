pub mod Modulo
pub mod Power
