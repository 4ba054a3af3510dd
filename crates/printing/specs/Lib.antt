pub mod Printing
pub mod Unique
pub mod Room
