-- What the loop of Horner's rule has before each turn: numerator and denominator from the coefficients of P from i on, where P has degree n at most.
-- Assumes nothing.
use Rattle.std.specs.Prelude.{◌≡◌, List, ℕ, suc, ◌+◌, ◌-◌, ◌*◌, ◌≤◌, ◌<◌, length, take}
use Rattle.std.proofs.Common.{sym, ◌∙◌, ap, ap₂, subst, arith, length-take-le, take_all}
use Rattle.std.proofs.Math.Nat as N
use Rattle.ring.specs.Ring.{pow, pow-suc}
use Rattle.series.specs.Series.{Series, Seq, sums, scaled, conv}
use Rattle.series.specs.Degree.{Below}
use Rattle.zmod.specs.Zmod.{Elt, Zmod}
use Rattle.zmod.specs.Residues.{poly, Residues, residues_poly, residues_same, residues_take}
use Rattle.composition.specs.Substitution.{homogenize}
use Rattle.substitution.specs.Horner.{dropped, dropped_none, power_one, horner_more}
use Rattle.substitution.specs.Degree.{denominator_below, numerator_below}

-- the first `hl` words of h are the numerator, and the first `dl` of den the denominator
pub record Horner (p : ℕ) (X Y P : Seq (Zmod p)) (L n i : ℕ) (h : List ℕ) (hl : ℕ) (den : List ℕ) (dl : ℕ) : Type 0 where
  pub size_h : hl ≡ suc ((n - i) * L)
  pub size_den : dl ≡ suc ((n - i) * (L - 1))
  pub numerator : Residues p (homogenize (Zmod p) X Y (n - i) (dropped (Zmod p) i P)) (take hl h)
  pub denominator : Residues p (pow (Series (Zmod p)) Y (n - i)) (take dl den)

-- there is room for one step more
pub step_fits : (p : ℕ) (X Y P : Seq (Zmod p)) (L n i : ℕ) (h : List ℕ) (hl : ℕ) (den : List ℕ) (dl : ℕ) → 0 < i → i ≤ n → Horner p X Y P L n i h hl den dl
    → (hl + L ≤ suc (n * L)) × (dl ≤ hl) × (0 < dl)
step_fits p X Y P L n i h hl den dl pos le state = (
  omega (arith, state.size_h, N.suc-mul (n - i) L, N.mul-le-mul_right {m = suc (n - i)} {n = n} L (omega arith)),
  omega (arith, state.size_h, state.size_den, N.mul-le-mul_left {m = L - 1} {n = L} (n - i) (omega arith)),
  omega (arith, state.size_den),
)

module _ (p : ℕ) (X Y P : Seq (Zmod p)) (L n : ℕ) (pos : 0 < L) (long : Below (Zmod p) (suc L) X) (short : Below (Zmod p) L Y) where
  -- before the first turn
  pub horner_start : (i : ℕ) (h den : List ℕ) → 0 < p → n ≡ suc i → Residues p (homogenize (Zmod p) X Y 1 (dropped (Zmod p) i P)) (take (L + 1) h)
      → Residues p Y den → Horner p X Y P L n i h (L + 1) den L
  horner_start i h den positive last first_h first_den = record {
    size_h = omega (arith, ap (λ k. k * L) one);
    size_den = omega (arith, ap (λ k. k * (L - 1)) one);
    numerator = residues_same (ap (λ k. homogenize (Zmod p) X Y k (dropped (Zmod p) i P)) one) first_h;
    denominator = residues_same (sym (power_one (Zmod p) Y) ∙ ap (pow (Series (Zmod p)) Y) one) (residues_take positive L first_den);
  }
    where
      one : 1 ≡ n - i
      one = omega arith

  -- a step, from the coefficient at i on
  horner_step : (i : ℕ) (h den h' den' : List ℕ) (hl dl : ℕ) (c : Elt p) → i < n → hl ≤ length h → dl ≤ length den → c ≡ P i
      → Horner p X Y P L n (suc i) h hl den dl
      → Residues p (conv (Zmod p) Y (poly p (take dl den))) (take (dl + (L - 1)) den')
      → Residues p (sums (Zmod p) (scaled (Zmod p) c (conv (Zmod p) Y (poly p (take dl den)))) (conv (Zmod p) X (poly p (take hl h)))) (take (hl + L) h')
      → Horner p X Y P L n i h' (hl + L) den' (dl + (L - 1))
  horner_step i h den h' den' hl dl c l fits_h fits_den coefficient before next_den next_h = record {
    size_h = omega (arith, before.size_h, N.suc-mul (n - suc i) L, ap (λ k. k * L) next);
    size_den = omega (arith, before.size_den, N.suc-mul (n - suc i) (L - 1), ap (λ k. k * (L - 1)) next);
    numerator = residues_same
        (ap₂ (λ a f. sums (Zmod p) (scaled (Zmod p) a f) (conv (Zmod p) X (poly p (take hl h)))) coefficient power
        ∙ ap (λ f. sums (Zmod p) (scaled (Zmod p) (P i) (pow (Series (Zmod p)) Y (suc (n - suc i)))) (conv (Zmod p) X f)) is_numerator
        ∙ sym (horner_more (Zmod p) X Y P i (n - suc i)) ∙ ap (λ k. homogenize (Zmod p) X Y k (dropped (Zmod p) i P)) next) next_h;
    denominator = residues_same (power ∙ ap (pow (Series (Zmod p)) Y) next) next_den;
  }
    where
      next : suc (n - suc i) ≡ n - i
      next = omega arith

      is_numerator : poly p (take hl h) ≡ homogenize (Zmod p) X Y (n - suc i) (dropped (Zmod p) (suc i) P)
      is_numerator =
          residues_poly before.numerator (subst (λ k. Below (Zmod p) k (homogenize (Zmod p) X Y (n - suc i) (dropped (Zmod p) (suc i) P)))
          (sym (length-take-le hl h fits_h ∙ before.size_h)) (numerator_below (Zmod p) L pos Y short X long (n - suc i) (dropped (Zmod p) (suc i) P)))

      is_denominator : poly p (take dl den) ≡ pow (Series (Zmod p)) Y (n - suc i)
      is_denominator =
          residues_poly before.denominator (subst (λ k. Below (Zmod p) k (pow (Series (Zmod p)) Y (n - suc i)))
          (sym (length-take-le dl den fits_den ∙ before.size_den)) (denominator_below (Zmod p) L pos Y short (n - suc i)))

      power : conv (Zmod p) Y (poly p (take dl den)) ≡ pow (Series (Zmod p)) Y (suc (n - suc i))
      power = ap (conv (Zmod p) Y) is_denominator ∙ sym (pow-suc (Series (Zmod p)) Y (n - suc i))

  -- a turn of the loop, which counts i down
  pub horner_turn : (i : ℕ) (h den h' den' : List ℕ) (hl dl : ℕ) (c : Elt p) → 0 < i → i ≤ n → hl ≤ length h → dl ≤ length den → c ≡ P (i - 1)
      → Horner p X Y P L n i h hl den dl
      → Residues p (conv (Zmod p) Y (poly p (take dl den))) (take (dl + (L - 1)) den')
      → Residues p (sums (Zmod p) (scaled (Zmod p) c (conv (Zmod p) Y (poly p (take dl den)))) (conv (Zmod p) X (poly p (take hl h)))) (take (hl + L) h')
      → Horner p X Y P L n (i - 1) h' (hl + L) den' (dl + (L - 1))
  horner_turn i h den h' den' hl dl c turns le fits_h fits_den coefficient before =
      horner_step (i - 1) h den h' den' hl dl c (omega arith) fits_h fits_den coefficient
      (subst (λ k. Horner p X Y P L n k h hl den dl) (omega arith) before)

  -- at the end all coefficients are in
  pub horner_all : (h den : List ℕ) (hl dl : ℕ) → length h ≡ suc (n * L) → Horner p X Y P L n 0 h hl den dl → Residues p (homogenize (Zmod p) X Y n P) h
  horner_all h den hl dl size last =
      residues_same (ap₂ (homogenize (Zmod p) X Y) (N.sub-zero n) (dropped_none (Zmod p) P))
      (subst (Residues p (homogenize (Zmod p) X Y (n - 0) (dropped (Zmod p) 0 P)))
      (take_all hl h (omega (arith, last.size_h, ap (λ k. k * L) (N.sub-zero n)))) last.numerator)
