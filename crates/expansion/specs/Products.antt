-- Document 01's sums as coefficients of products of parts: a and b are the sequences from some place on.
-- Assumes nothing.
use Rattle.std.specs.Prelude.{◌≡◌, refl, ℕ, zero, suc, ◌+◌, ◌-◌, ◌≤◌, ◌<◌, List, length, get_or, take, drop}
use Rattle.std.proofs.Common.{◌∙◌, ap, ap₂, arith}
use Rattle.ring.specs.Ring.{CRing}
use Rattle.series.specs.Series.{Seq, conv, sum, conv_sum, sum_same}
use Rattle.zmod.specs.Zmod.{Zmod, times}
use Rattle.zmod.specs.Residues.{Residue, poly, Residues, residue_same, residues_at}
use Rattle.expansion.specs.Parts.{part_at}
use Rattle.isogeny.specs.Expansion.{sum_to, expansion, from_sums}

module _ (R : CRing) where
  open R use {Car, mul as ◌⊗◌}

  infixl 70 ◌⊗◌
  -- a coefficient by its terms
  pub conv_terms : (a b f : Seq R) (n : ℕ) → ((i : ℕ) → i ≤ n → a i ⊗ b (n - i) ≡ f i) → conv R a b n ≡ sum R f (suc n)
  conv_terms a b f n h = conv_sum R a b n ∙ sum_same R (λ i. a i ⊗ b (n - i)) f (suc n) (λ i l. h i (omega arith))

  -- the sum of h_i h_(k − 1 − i), i from 1 to k − 2: a is h₁ .. h_(k − 2)
  pub square_part : (h a : Seq R) (k : ℕ) → 3 ≤ k → ((i : ℕ) → i < k - 2 → a i ≡ h (1 + i))
      → conv R a a (k - 3) ≡ sum_to R (λ i. h i ⊗ h (k - 1 - i)) (k - 2)
  square_part h a k l e =
      conv_terms a a (λ i. h (suc i) ⊗ h (k - 1 - suc i)) (k - 3)
      (λ i m. ap₂ ◌⊗◌ (e i (omega arith) ∙ ap h (omega arith)) (e (k - 3 - i) (omega arith) ∙ ap h (omega arith)))
      ∙ ap (sum R (λ i. h (suc i) ⊗ h (k - 1 - suc i))) (omega arith)

  -- a definition by cases, above 0
  pub expansion_above : (A B : Car) (s : Seq R) (i : ℕ) → 1 ≤ i → expansion R A B s i ≡ from_sums R A B s i
  expansion_above A B s zero l = absurd (omega arith)
  expansion_above A B s (suc i) l = refl

-- ── words

-- the residues of the sums of h_i h_(k − 1 − i), i from 1 to k − 2, from k = 3 on
abbrev pub Squares : ℕ → List ℕ → List ℕ → Type 0
Squares p h xs = (k : ℕ) → 3 ≤ k → k < length h
    → Residue p (sum_to (Zmod p) (λ i. times p (poly p h i) (poly p h (k - 1 - i))) (k - 2)) (get_or xs (k - 3) 0)

-- they are the square of h without h₀
pub squares_of : (p : ℕ) (h xs : List ℕ) (n : ℕ) → n ≡ length h - 1 → length h ≤ length xs + 3
    → Residues p (conv (Zmod p) (poly p (take n (drop 1 h))) (poly p (take n (drop 1 h)))) xs → Squares p h xs
squares_of p h xs n size long r k l m =
    residue_same (square_part (Zmod p) (poly p h) (poly p (take n (drop 1 h))) k l (λ i q. part_at p h 1 n i (omega arith))) (residues_at r (k - 3) (omega
    arith))
