pub mod JValues
pub mod Names
