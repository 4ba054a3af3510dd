pub mod Substitution
pub mod Homogenized
pub mod SubstitutionAt
pub mod SubstitutionReversed
pub mod Composite
