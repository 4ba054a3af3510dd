-- Sizes of slices: g and q words for g₁ and g₂, s for g₁².
-- Assumes nothing.
use Rattle.std.specs.Prelude.{◌≡◌, ℕ, ◌+◌, ◌-◌, ◌*◌, ◌≤◌}
use Rattle.std.proofs.Common.{ap, arith}
use Rattle.std.proofs.Math.Nat as N

-- the numerator is no shorter at the end than at first
pub long_enough : (q s : ℕ) → 2 ≤ q → s ≤ (q - 1) * s
long_enough q s h = omega (arith, N.mul-le-mul_right {m = 1} {n = q - 1} s (omega arith))

-- out has g₁'s words and as many numerators, of s words each, as g₂ has degree
pub out_size : (g q s out : ℕ) → s + 1 ≡ 2 * g → out ≡ g + (q - 1) * (2 * g - 1) → out ≡ g + (q - 1) * s
out_size g q s out square size = let e : s ≡ 2 * g - 1 = omega arith in omega (arith, ap (λ n. (q - 1) * n) e)
