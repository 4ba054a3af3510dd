pub mod Quotient
pub mod Division
pub mod Lifted
