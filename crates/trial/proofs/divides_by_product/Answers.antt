-- `trial::divides_by_product` meets its contract: n is below 2^22 times the divisor, and that is at most 2^32.
-- Assumes nothing.
use Rattle.std.proofs.Common.{arith, inl, inr, refl, ℕ, ◌%◌, ◌*◌, ◌<◌, ◌^◌, ◌↔◌}
use Prim.Native.Nat.{◌∣◌}
use Rattle.trial.specs.Table.{Pair}
use Rattle.trial.proofs.Quotient.{one_product}
use Rattle.trial.proofs.divides_by_product.Goals as goal

-- the product is below 2^22 modulo 2^32 exactly where q divides n
decides : (n q i : ℕ) → n < 2 ^ 28 → Pair (2 ^ 32) 64 1024 q i → (q ∣ n) ↔ ((n * i) % 2 ^ 32 < 2 ^ 22)
decides n q i below p = one_product (2 ^ 32) (2 ^ 22) q i (omega (arith, p.above)) p.inverse (omega (arith, p.below)) n (omega (arith, p.above))

pub returns-then-n-inverse-lt4194304 : goal.returns-then-n-inverse-lt4194304
returns-then-n-inverse-lt4194304 c =
    let a = c.args in
    let divided = decides a.n a.q a.inverse c.requires.1 c.requires.2 in
    inl ((divided.1 c.if-n-inverse-lt4194304.true, omega (arith, c.requires.2.below)), refl)

pub returns-else-n-inverse-lt4194304 : goal.returns-else-n-inverse-lt4194304
returns-else-n-inverse-lt4194304 c =
    let a = c.args in
    let divided = decides a.n a.q a.inverse c.requires.1 c.requires.2 in
    inr (λ h. omega (arith, c.if-n-inverse-lt4194304.false, divided.0 h.0), refl)
