pub mod Sheets
pub mod Kernels
