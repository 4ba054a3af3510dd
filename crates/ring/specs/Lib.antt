pub mod Ring
pub mod Powers
pub mod Test
pub mod Identity
pub mod Derivation
pub mod Derivative
pub mod Field
pub mod Examples
