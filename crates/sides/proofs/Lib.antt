pub mod Cubic
pub mod SideSteps
pub mod ComparedSides
