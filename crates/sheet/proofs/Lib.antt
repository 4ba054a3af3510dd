pub mod PlaceTable
pub mod Starts
pub mod Copies
