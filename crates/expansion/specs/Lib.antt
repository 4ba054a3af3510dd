pub mod Multiple
pub mod Equations
pub mod Stores
pub mod Parts
pub mod Products
pub mod Begun
