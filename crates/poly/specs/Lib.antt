pub mod Partial
pub mod Stored
