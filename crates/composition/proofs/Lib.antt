-- The proofs of `Theorems`, in the order of the argument: N and N'g − 2Ng' of a product; the composite's first two coefficients, hence R1; then R2 and R3;
-- values at a point; three isogenies.
pub mod Product
pub mod Leading
pub mod Rules
pub mod Image
pub mod Associativity
pub mod Theorems
pub mod Examples
