pub mod Degrees
pub mod Numerator
pub mod Words
pub mod Products
pub mod Over
