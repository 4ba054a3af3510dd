pub mod Four
pub mod Sums
