pub mod Elements
pub mod Images
