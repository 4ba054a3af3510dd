pub mod Combination
pub mod Table
pub mod Fold
pub mod Square
