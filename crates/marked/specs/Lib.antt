pub mod Tests
pub mod Rules
pub mod Sanity
pub mod Sheets
pub mod NoCodomain
pub mod Row
pub mod Holds
pub mod Table
