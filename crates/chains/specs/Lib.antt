pub mod Chain
pub mod Brackets
pub mod Theorems
pub mod Three
