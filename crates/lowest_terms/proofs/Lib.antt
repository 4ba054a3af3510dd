-- The proofs of `Theorems`, in the order of the argument: f has no repeated factor; N modulo g; R2 and R3 at g = πᵐ k, the powers of π taken out; what is left
-- of R3, modulo π; the cases π ∣ f and π ∤ f.
pub mod Discriminant
pub mod Numerator
pub mod Factor
pub mod Modulo
pub mod Cases
pub mod Theorems
pub mod Examples
pub mod Coprime
