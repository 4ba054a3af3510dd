-- `trial::divides_by_halves` meets its contract: the upper half of n is below 4 times the divisor, and that is at most 2^16.
-- Assumes nothing.
use Rattle.std.proofs.Common.{◌-◌, ◌∙◌, ap, arith, inl, inr, refl, subst, sym, ℕ, ◌%◌, ◌*◌, ◌+◌, ◌/◌, ◌<◌, ◌^◌, ◌↔◌, ◌≡◌}
use Prim.Native.Nat.{◌∣◌}
use native.Mathlib.Nat as N
use Rattle.trial.specs.Table.{Pair}
use Rattle.trial.proofs.Quotient.{by_halves}
use Rattle.trial.proofs.divides_by_halves.Goals as goal

-- the second quotient, `low`, is below 4 exactly where q divides n
module _ (n q inverse m t rest low : ℕ) (n_below : n < 2 ^ 28) (pair : Pair (2 ^ 16) 1024 16384 q inverse)
    (m_is : m ≡ (n % 2 ^ 16 * inverse) % 2 ^ 16) (t_is : t ≡ (m * q) / 2 ^ 16)
    (t_below : t < 2 ^ 16) (rest_is : rest ≡ (n / 2 ^ 16 + (2 ^ 16 - t)) % 2 ^ 16) (low_is : low ≡ (rest * inverse) % 2 ^ 16) where
  halves : (q ∣ 2 ^ 16 * (n / 2 ^ 16) + n % 2 ^ 16) ↔ ((rest * inverse) % 2 ^ 16 < 4)
  halves =
      by_halves (2 ^ 16) 4 q inverse (omega (arith, pair.above)) pair.inverse (omega (arith, pair.below)) (n / 2 ^ 16) (n % 2 ^ 16)
      m t rest (omega (arith, n_below, pair.above)) (N.mod-lt n (omega arith)) m_is t_is (rest_is ∙ ap (λ x. x % 2 ^ 16) (omega arith))

  decides : (q ∣ n) ↔ (low < 4)
  decides =
      let whole : 2 ^ 16 * (n / 2 ^ 16) + n % 2 ^ 16 ≡ n = N.div-add-mod n (2 ^ 16) in (
        λ dv. subst (λ x. x < 4) (sym low_is) (halves.0 (subst (λ x. q ∣ x) (sym whole) dv)),
        λ h. subst (λ x. q ∣ x) whole (halves.1 (subst (λ x. x < 4) low_is h)),
      )

pub returns-then-rest-inverse-lt4 : goal.returns-then-rest-inverse-lt4
returns-then-rest-inverse-lt4 c =
    let a = c.args in
    let divided = decides a.n a.q a.inverse _ c.high_half.result _ _ c.requires.1 c.requires.2 refl c.high_half.ensures c.high_half.type_inv refl refl in
    inl ((divided.1 c.if-rest-inverse-lt4.true, omega (arith, c.requires.2.below)), refl)

pub returns-else-rest-inverse-lt4 : goal.returns-else-rest-inverse-lt4
returns-else-rest-inverse-lt4 c =
    let a = c.args in
    let divided = decides a.n a.q a.inverse _ c.high_half.result _ _ c.requires.1 c.requires.2 refl c.high_half.ensures c.high_half.type_inv refl refl in
    inr (λ h. omega (arith, c.if-rest-inverse-lt4.false, divided.0 h.0), refl)
