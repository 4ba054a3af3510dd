pub mod Long
pub mod Bytes
pub mod Loading
