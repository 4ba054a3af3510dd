pub mod InOrder
pub mod Down
pub mod Singular
