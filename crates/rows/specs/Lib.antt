pub mod Rows
pub mod Room
pub mod Sums
pub mod Block
pub mod Turn
pub mod Square
pub mod Product
