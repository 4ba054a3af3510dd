-- The proofs of `Theorems`, in the order of the argument: the expansion at infinity depends on the curves and the degree alone; it determines N / g²; so g²
-- is reconstructed from it, and σ is read off.
pub mod Expansion
pub mod AtInfinity
pub mod Determined
pub mod Theorems
pub mod Examples
pub mod Approximant
pub mod Sum
pub mod Only
