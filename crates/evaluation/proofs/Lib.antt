pub mod Blocks
pub mod Upper
pub mod Words
