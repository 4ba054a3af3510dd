-- What the loop of Horner's rule has before each turn, in slices as long as what they hold: numerator and denominator from the topmost t + 1 coefficients of P,
-- where P has degree n at most.
-- Assumes nothing.
use Rattle.std.specs.Prelude.{◌≡◌, List, ◌++◌, ℕ, suc, ◌+◌, ◌-◌, ◌*◌, ◌≤◌, ◌<◌, length, get_or, take, drop}
use Rattle.std.proofs.Common.{sym, ◌∙◌, ap, ap₂, subst, arith, length-append, length-drop, length-take-le, get_or-drop, get_or-append-add}
use Rattle.std.proofs.Math.Decide.{dec_lt}
use Rattle.std.proofs.Math.ListN.{get_or-append}
use Rattle.std.proofs.Math.Nat as Nat
use Rattle.ring.specs.Ring.{pow, pow-suc}
use Rattle.series.specs.Series.{Series, Seq, sums, scaled, conv}
use Rattle.series.specs.Degree.{Below, below_mono}
use Rattle.zmod.specs.Zmod.{Elt, Zmod, mk}
use Rattle.zmod.specs.Residues.{poly, poly_at, Residues, residues_poly, residues_same, residues_take}
use Rattle.composition.specs.Substitution.{homogenize}
use Rattle.substitution.specs.Horner.{dropped, dropped_none, power_one, horner_more}
use Rattle.substitution.specs.Degree.{denominator_below, numerator_below}

-- h is the numerator, and den the denominator
pub record HornerAt (p : ℕ) (X Y P : Seq (Zmod p)) (n t : ℕ) (h den : List ℕ) : Type 0 where
  pub numerator : Residues p (homogenize (Zmod p) X Y t (dropped (Zmod p) (n - t) P)) h
  pub denominator : Residues p (pow (Series (Zmod p)) Y t) den

-- there is room for a turn: its denominator is shorter than its numerator, which is not longer than the last
pub turn_fits : (L n t : ℕ) → 0 < L → t < n → ((t + 1) * (L - 1) + 1 ≤ (t + 1) * L + 1) × ((t + 1) * L + 1 ≤ n * L + 1) × (L ≤ (t + 1) * L)
turn_fits L n t pos less = (
  omega (arith, Nat.mul-le-mul_left {m = L - 1} {n = L} (t + 1) (omega arith)),
  omega (arith, Nat.mul-le-mul_right {m = t + 1} {n = n} L (omega arith)),
  omega (arith, Nat.mul-le-mul_right {m = 1} {n = t + 1} L (omega arith), Nat.one-mul L),
)

-- the first k words of xs, all that count, were lent and came back as `part`
module _ (p k : ℕ) (f g : Seq (Zmod p)) (xs part : List ℕ) (short_f : Below (Zmod p) k f) (short_g : Below (Zmod p) k g) (long : length part ≡ k)
    (old : Residues p f xs) (new : Residues p g part) where
  abbrev back : List ℕ
  back = part ++ drop k xs

  back_front : (i : ℕ) → i < k → get_or back i 0 ≡ get_or part i 0
  back_front i l = get_or-append part (drop k xs) 0 i (omega arith)

  back_rest : (i : ℕ) → k ≤ i → get_or back i 0 ≡ get_or xs i 0
  back_rest i l =
      let e : length part + (i - k) ≡ i = omega arith in
      let whole : k + (i - k) ≡ i = omega arith in
      ap (λ j. get_or back j 0) (sym e) ∙ get_or-append-add part (drop k xs) (i - k) 0 ∙ get_or-drop k xs (i - k) 0 ∙ ap (λ j. get_or xs j 0) whole

  pub residues_back : Residues p g back
  residues_back = record { reduced = λ i. low i (dec_lt i k); coefficients = λ i l. go i l (dec_lt i k) }
    where
      low : (i : ℕ) → Dec (i < k) → get_or back i 0 < p
      low i (yes l) = omega (arith, back_front i l, new.reduced i)
      low i (no l) = omega (arith, back_rest i (omega arith), old.reduced i)

      go : (i : ℕ) → i < length back → Dec (i < k) → poly p back i ≡ g i
      go i l (yes m) =
          poly_at p back i ∙ ap (mk p) (back_front i m) ∙ sym (poly_at p part i) ∙ new.coefficients i (omega arith)
      go i l (no m) =
          poly_at p back i ∙ ap (mk p) (back_rest i (omega arith)) ∙ sym (poly_at p xs i)
          ∙ old.coefficients i (omega (arith, length-append part (drop k xs), length-drop k xs)) ∙ short_f i (omega arith) ∙ sym (short_g i (omega arith))

module _ (p : ℕ) (X Y P : Seq (Zmod p)) (L n : ℕ) (pos : 0 < L) (long : Below (Zmod p) (suc L) X) (short : Below (Zmod p) L Y) where
  -- before the first turn
  pub turns_start : (h den : List ℕ) → Residues p (homogenize (Zmod p) X Y 1 (dropped (Zmod p) (n - 1) P)) h → Residues p Y den → HornerAt p X Y P n 1 h den
  turns_start h den first_h first_den = record { numerator = first_h; denominator = residues_same (sym (power_one (Zmod p) Y)) first_den }

  -- a turn, in the first k words of h and the first d of den
  pub turns_more : (t k d : ℕ) (h den h' den' : List ℕ) (c : Elt p) → 0 < p → t < n → k ≡ (t + 1) * L + 1 → d ≡ (t + 1) * (L - 1) + 1 → k ≤ length h
      → d ≤ length den → length h' ≡ k → length den' ≡ d → c ≡ P (n - 1 - t) → HornerAt p X Y P n t h den
      → Residues p (conv (Zmod p) Y (poly p (take d den))) den'
      → Residues p (sums (Zmod p) (scaled (Zmod p) c (poly p den')) (conv (Zmod p) X (poly p (take k h)))) h'
      → HornerAt p X Y P n (t + 1) (h' ++ drop k h) (den' ++ drop d den)
  turns_more t k d h den h' den' c positive less size_k size_d fits_h fits_den same_h same_den coefficient before next_den next_h = record {
    numerator = subst (λ u. Residues p (homogenize (Zmod p) X Y u (dropped (Zmod p) (n - u) P)) (h' ++ drop k h)) (omega arith)
        (residues_back p k (N t) (N (suc t)) h h' (short_N t (omega arith)) (short_N (suc t) (omega arith)) same_h before.numerator numerators);
    denominator = subst (λ u. Residues p (pow (Series (Zmod p)) Y u) (den' ++ drop d den)) (omega arith)
        (residues_back p d (D t) (D (suc t)) den den' (short_D t (omega arith)) (short_D (suc t) (omega arith)) same_den before.denominator denominators);
  }
    where
      N : ℕ → Seq (Zmod p)
      N u = homogenize (Zmod p) X Y u (dropped (Zmod p) (n - u) P)

      D : ℕ → Seq (Zmod p)
      D u = pow (Series (Zmod p)) Y u

      short_N : (u : ℕ) → u ≤ t + 1 → Below (Zmod p) k (N u)
      short_N u le =
          below_mono (Zmod p) (suc (u * L)) k (N u) (omega (arith, Nat.mul-le-mul_right {m = u} {n = t + 1} L le))
          (numerator_below (Zmod p) L pos Y short X long u _)

      short_D : (u : ℕ) → u ≤ t + 1 → Below (Zmod p) d (D u)
      short_D u le =
          below_mono (Zmod p) (suc (u * (L - 1))) d (D u) (omega (arith, Nat.mul-le-mul_right {m = u} {n = t + 1} (L - 1) le))
          (denominator_below (Zmod p) L pos Y short u)

      is_N : poly p (take k h) ≡ N t
      is_N =
          residues_poly (residues_take positive k before.numerator)
          (subst (λ j. Below (Zmod p) j (N t)) (sym (length-take-le k h fits_h)) (short_N t (omega arith)))

      is_D : poly p (take d den) ≡ D t
      is_D =
          residues_poly (residues_take positive d before.denominator)
          (subst (λ j. Below (Zmod p) j (D t)) (sym (length-take-le d den fits_den)) (short_D t (omega arith)))

      denominators : Residues p (D (suc t)) den'
      denominators = residues_same (ap (conv (Zmod p) Y) is_D ∙ sym (pow-suc (Series (Zmod p)) Y t)) next_den

      is_den' : poly p den' ≡ D (suc t)
      is_den' = residues_poly denominators (subst (λ j. Below (Zmod p) j (D (suc t))) (sym same_den) (short_D (suc t) (omega arith)))

      numerators : Residues p (N (suc t)) h'
      numerators =
          let at : n - 1 - t ≡ n - suc t = omega arith in
          let after : n - t ≡ suc (n - suc t) = omega arith in
          residues_same
          (ap₂ (λ a f. sums (Zmod p) (scaled (Zmod p) a f) (conv (Zmod p) X (poly p (take k h)))) (coefficient ∙ ap P at) is_den'
          ∙ ap (λ f. sums (Zmod p) (scaled (Zmod p) (P (n - suc t)) (D (suc t))) (conv (Zmod p) X f))
          (is_N ∙ ap (λ j. homogenize (Zmod p) X Y t (dropped (Zmod p) j P)) after)
          ∙ sym (horner_more (Zmod p) X Y P (n - suc t) t)) next_h

  -- at the end all coefficients are in
  pub turns_all : (t : ℕ) (h den : List ℕ) → t ≡ n → HornerAt p X Y P n t h den → Residues p (homogenize (Zmod p) X Y n P) h
  turns_all t h den e last =
      residues_same (ap₂ (λ u j. homogenize (Zmod p) X Y u (dropped (Zmod p) j P)) e (omega arith) ∙ ap (homogenize (Zmod p) X Y n) (dropped_none (Zmod p) P))
      last.numerator
