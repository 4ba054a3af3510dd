-- Powers of x modulo g by the exponent's binary digits, topmost first: where it begins, a turn, and the end. Before each turn r is x to the power of the
-- digits from place i up, e / 2ⁱ; a turn squares it and multiplies by x where the next digit is 1.
-- Assumes nothing.
use Rattle.std.specs.Prelude.{◌≡◌, List, ℕ, zero, suc, ◌+◌, ◌-◌, ◌/◌, ◌%◌, ◌^◌, ◌≤◌, ◌<◌, get_or, set, replicate}
use Rattle.std.proofs.Common.{sym, ◌∙◌, ap, subst, add-one, arith, pow_mono, get_or-set_same, get_or-set_other}
use Rattle.std.proofs.Math.Path.{fun_ext}
use Rattle.std.proofs.Math.Nat as N
use Rattle.std.proofs.Math.Decide.{ℕ_discrete, dec_lt}
use Rattle.std.specs.Int.Count.{count_leading_zeros}
use Rattle.std.proofs.lemmas.Nat.{leading_top}
use Rattle.std.proofs.lemmas.List.{length-replicate}
use Rattle.ring.specs.Ring
use Rattle.ring.specs.Ring.{CRing, pow, pow-zero, pow-suc, pow-add}
use Rattle.series.specs.Series.{Series, Seq, conv}
use Rattle.series.specs.Degree.{poly_mul, poly_pow}
use Rattle.series.specs.Indeterminate.{ind, conv_ind}
use Rattle.series.specs.Binomial.{ind_monic, ind_power, monic_power, poly_ind}
use Rattle.series.specs.Reversal.{shift}
use Rattle.zmod.specs.Zmod.{Zmod, mk}
use Rattle.zmod.specs.Residues.{poly, poly_at}
use Rattle.rows.specs.Room.{zero_at}
use Rattle.roots.specs.Power.{PowerModulo, power_congruent, power_double}
use Rattle.divisibility.specs.Congruence.{Congruent, congruent_refl, congruent_mul}
use Rattle.modulo.specs.Modulo.{RemainderOf}

-- xᵏ a is a moved up by k places
pub shift_power : (R : CRing) (k : ℕ) (a : Seq R) → shift R k a ≡ conv R (pow (Series R) (ind R) k) a
unfolding shift
shift_power R zero a = sym (ap (λ s. conv R s a) (pow-zero (Series R) (ind R)) ∙ Ring.one-mul (Series R) a)
shift_power R (suc k) a =
    sym (conv_ind R (shift R k a)) ∙ ap (conv R (ind R)) (shift_power R k a) ∙ sym (CRing.mul_assoc (Series R) (ind R) (pow (Series R) (ind R) k) a)
    ∙ ap (λ s. conv R s a) (sym (pow-suc (Series R) (ind R) k))

-- ── the digits

-- above the topmost one there is none
pub topmost : (e : ℕ) → 0 < e → e < 2 ^ 28 → (4 ≤ count_leading_zeros 32 e) × (count_leading_zeros 32 e ≤ 32) × (e / 2 ^ (32 - count_leading_zeros 32 e) ≡ 0)
topmost e pos fits =
    let t = leading_top 32 e pos (omega arith) in
    let j : ℕ = t.0 in
    let hi : e < 2 ^ suc j = t.3 in
    let place : 32 - count_leading_zeros 32 e ≡ suc j = omega (arith, t.1) in
    (omega (arith, t.1, low j t.2), omega (arith, t.1), ap (λ n. e / 2 ^ n) place ∙ N.div-eq_of_lt-le (2 ^ suc j) (omega arith) (omega arith))
  where
    low : (j : ℕ) → 2 ^ j ≤ e → j < 28
    low j le = go (dec_lt j 28)
      where
        go : Dec (j < 28) → j < 28
        go (yes l) = l
        go (no l) = absurd (omega (arith, pow_mono {i = 28} {j = j} (omega arith)))

-- the digits of e from place j up: those from j + 1 up, and the one at j
digit : (e j : ℕ) → e / 2 ^ j ≡ (e / 2 ^ j) % 2 + (e / 2 ^ (j + 1) + e / 2 ^ (j + 1))
digit e j =
    let q : e / 2 ^ j / 2 ≡ e / 2 ^ (j + 1) = N.div-div-eq-div-mul e (2 ^ j) 2 ∙ ap (λ n. e / n) (sym (N.pow-suc 2 j) ∙ ap (λ n. 2 ^ n) (sym (add-one j))) in
    omega (arith, N.div-add-mod' (e / 2 ^ j) 2)

-- x to the power e
abbrev pub x_to : (p : ℕ) → ℕ → Seq (Zmod p)
x_to p e = pow (Series (Zmod p)) (ind (Zmod p)) e

-- a power that is lower than the slice is long is its own remainder
module _ (p n k : ℕ) (large : 1 < p) (inside : k < n) where
  abbrev r : List ℕ
  r = set (replicate n 0) k 1

  here : get_or r k 0 ≡ 1
  here = get_or-set_same (replicate n 0) k 1 0 (omega (arith, length-replicate {A = ℕ} n 0))

  other : (i : ℕ) → (i ≡ k → ⊥) → get_or r i 0 ≡ 0
  other i apart = get_or-set_other (replicate n 0) k i 1 0 apart ∙ zero_at n i

  words : (i : ℕ) → get_or r i 0 < p
  words i = go (ℕ_discrete i k)
    where
      go : Dec (i ≡ k) → get_or r i 0 < p
      go (yes e) = omega (arith, ap (λ j. get_or r j 0) e, here)
      go (no e) = omega (arith, other i e)

  is : poly p r ≡ x_to p k
  is = fun_ext λ i. poly_at p r i ∙ go i (ℕ_discrete i k)
    where
      go : (i : ℕ) → Dec (i ≡ k) → mk p (get_or r i 0) ≡ x_to p k i
      go i (yes e) =
          ap (λ j. mk p (get_or r j 0)) e ∙ ap (mk p) here ∙ sym (monic_power (Zmod p) (ind (Zmod p)) (ind_monic (Zmod p)) k).one ∙ ap (x_to p k) (sym e)
      go i (no e) = ap (mk p) (other i e) ∙ sym (ind_power (Zmod p) k i (λ q. e (sym q)))

  pub power_begins : (g : Seq (Zmod p)) → RemainderOf p n g (x_to p k) r
  power_begins g = record {
    reduced = words;
    below = λ i l. ap (λ f. f i) is ∙ ind_power (Zmod p) k i (λ q. absurd (omega arith));
    congruent = subst (λ s. Congruent (Zmod p) g s (x_to p k)) (sym is) (congruent_refl (Zmod p) g (x_to p k));
  }

module _ (p n : ℕ) (g : Seq (Zmod p)) where
  -- a turn: the square, moved up by a place where the digit is 1
  module _ (e i : ℕ) (r s : List ℕ) (pos : 0 < i) (before : RemainderOf p n g (x_to p (e / 2 ^ i)) r)
      (squared : RemainderOf p n g (shift (Zmod p) ((e / 2 ^ (i - 1)) % 2) (conv (Zmod p) (poly p r) (poly p r))) s) where
    abbrev k : ℕ
    k = e / 2 ^ i

    abbrev b : ℕ
    b = (e / 2 ^ (i - 1)) % 2

    abbrev square : Seq (Zmod p)
    square = conv (Zmod p) (poly p r) (poly p r)

    moved : PowerModulo (Zmod p) g (ind (Zmod p)) (b + (k + k)) (shift (Zmod p) b square)
    moved =
        subst (λ w. Congruent (Zmod p) g w (x_to p (b + (k + k)))) (sym (shift_power (Zmod p) b square))
        (subst (Congruent (Zmod p) g (conv (Zmod p) (x_to p b) square)) (sym (pow-add (Series (Zmod p)) (ind (Zmod p)) b (k + k)))
        (congruent_mul (Zmod p) g (x_to p b) (x_to p b) square (x_to p (k + k)) (poly_pow (Zmod p) (ind (Zmod p)) (poly_ind (Zmod p)) b)
        (poly_mul (Zmod p) (poly p r) (poly p r) (n, before.below) (n, before.below)) (congruent_refl (Zmod p) g (x_to p b))
        (power_double (Zmod p) g (ind (Zmod p)) k (poly p r) before.congruent (poly_ind (Zmod p)) (n, before.below))))

    pub power_turn : RemainderOf p n g (x_to p (e / 2 ^ (i - 1))) s
    power_turn = record {
      reduced = squared.reduced;
      below = squared.below;
      congruent =
          subst (λ m. Congruent (Zmod p) g (poly p s) (x_to p m)) (sym (digit e (i - 1) ∙ ap (λ j. b + (e / 2 ^ j + e / 2 ^ j)) (omega arith)))
          (power_congruent (Zmod p) g (ind (Zmod p)) (b + (k + k)) (shift (Zmod p) b square) moved (poly p s) squared.congruent);
    }

  pub power_ends : (e i : ℕ) (r : List ℕ) → i ≡ 0 → RemainderOf p n g (x_to p (e / 2 ^ i)) r → RemainderOf p n g (x_to p e) r
  power_ends e i r z = subst (λ m. RemainderOf p n g (x_to p m) r) (ap (λ j. e / 2 ^ j) z ∙ N.div-one e)
