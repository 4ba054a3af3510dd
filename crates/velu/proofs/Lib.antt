pub mod Codomains
pub mod Sheets
