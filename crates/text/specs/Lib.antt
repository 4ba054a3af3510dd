pub mod Text
pub mod Fills
pub mod Digits
pub mod Lines
