pub mod Reading
pub mod Leaf
pub mod Header
pub mod Body
pub mod Accepted
pub mod AskedAlike
pub mod LongSheet
pub mod ReducedSheet
