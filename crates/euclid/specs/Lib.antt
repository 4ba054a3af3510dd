pub mod Words
pub mod Combination
pub mod Pseudo
pub mod Cancel
pub mod Euclid
