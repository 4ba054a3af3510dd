pub mod Sums
pub mod Twins
pub mod Laws
