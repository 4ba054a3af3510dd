pub mod Shift
pub mod Steps
