pub mod Tables
pub mod Jets
