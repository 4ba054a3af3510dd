pub mod Demands
pub mod Source
pub mod ComposePush
pub mod Abscissas
pub mod Again
pub mod LowestTerms
