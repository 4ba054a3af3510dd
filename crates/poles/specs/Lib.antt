pub mod Rows
pub mod Words
pub mod Front
pub mod Steps
pub mod Poles
