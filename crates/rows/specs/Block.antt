-- A product by blocks: the four terms of a from the place i on, times another factor, and the terms from i on of a square.
-- Assumes nothing.
use Rattle.std.specs.Prelude.{◌≡◌}
use Rattle.std.proofs.Math.Path.{refl, ap, fun_ext}
use Rattle.std.proofs.Common.{sym, ◌∙◌, ap₂, arith}
use Prim.Native.Nat.{ℕ, zero, suc, ◌+◌, ◌-◌, ◌≤◌, ◌<◌}
use Rattle.std.proofs.Math.Decide.{dec_lt}
use Rattle.ring.specs.Ring
use Rattle.ring.specs.Ring.{CRing}
use Rattle.ring.specs.Identity.{solve2, solve4}
use Rattle.ring.specs.Identity.Ex.{:0, ◌:+◌, ◌:*◌}
use Rattle.series.specs.Series.{Seq, Series, tail, head_then, zeros, const, sums, sum, sum_suc, sum_same, conv, conv_zero, conv_suc, conv_sum, conv_const, conv_zeros}
use Rattle.series.specs.Degree.{Below}
use Rattle.series.specs.Reversal.{shift, shift_low, shift_at, conv_shift}

module _ (R : CRing) where
  open R use {Car, 𝟘, add as ◌⊕◌, mul as ◌⊗◌}

  infixl 65 ◌⊕◌
  infixl 70 ◌⊗◌
  -- the terms of a from i on
  unfoldable pub upper : ℕ → Seq R → Seq R
  upper zero a = a
  upper (suc i) a = head_then R 𝟘 (upper i (tail R a))

  pub upper_low : (i : ℕ) (a : Seq R) (k : ℕ) → k < i → upper i a k ≡ 𝟘
  unfolding upper
  upper_low zero a k l = absurd (omega arith)
  upper_low (suc i) a zero l = refl
  upper_low (suc i) a (suc k) l = upper_low i (tail R a) k (omega arith)

  pub upper_high : (i : ℕ) (a : Seq R) (k : ℕ) → i ≤ k → upper i a k ≡ a k
  unfolding upper
  upper_high zero a k l = refl
  upper_high (suc i) a zero l = absurd (omega arith)
  upper_high (suc i) a (suc k) l = upper_high i (tail R a) k (omega arith)

  -- w + x t + y t² + z t³
  abbrev pub quad : Car → Car → Car → Car → Seq R
  quad w x y z = head_then R w (head_then R x (head_then R y (const R z)))

  -- a factor of four terms, times one that E holds behind three zeros
  pub quad_conv : (w x y z : Car) (E : Seq R) → ((j : ℕ) → j < 3 → E j ≡ 𝟘) → (n : ℕ)
      → conv R (quad w x y z) (λ j. E (3 + j)) n ≡ w ⊗ E (3 + n) ⊕ x ⊗ E (2 + n) ⊕ y ⊗ E (1 + n) ⊕ z ⊗ E n
  quad_conv w x y z E low zero =
      conv_zero R _ _
      ∙ solve4 R (λ w x y z. w) (λ w x y z. w :+ x :* :0 :+ y :* :0 :+ z :* :0) tt (w ⊗ E 3) x y z
      ∙ sym (ap₂ (λ r t. w ⊗ E 3 ⊕ x ⊗ r ⊕ y ⊗ t ⊕ z ⊗ E 0) (low 2 (omega arith)) (low 1 (omega arith))
      ∙ ap (λ r. w ⊗ E 3 ⊕ x ⊗ 𝟘 ⊕ y ⊗ 𝟘 ⊕ z ⊗ r) (low 0 (omega arith)))
  quad_conv w x y z E low (suc zero) =
      conv_suc R _ _ 0 ∙ ap (λ r. w ⊗ E 4 ⊕ r) (conv_zero R _ _)
      ∙ solve4 R (λ w x y z. w :+ x) (λ w x y z. w :+ x :+ y :* :0 :+ z :* :0) tt (w ⊗ E 4) (x ⊗ E 3) y z
      ∙ sym (ap₂ (λ r t. w ⊗ E 4 ⊕ x ⊗ E 3 ⊕ y ⊗ r ⊕ z ⊗ t) (low 2 (omega arith)) (low 1 (omega arith)))
  quad_conv w x y z E low (suc (suc zero)) =
      conv_suc R _ _ 1 ∙ ap (λ r. w ⊗ E 5 ⊕ r) (conv_suc R _ _ 0 ∙ ap (λ r. x ⊗ E 4 ⊕ r) (conv_zero R _ _))
      ∙ solve4 R (λ w x y z. w :+ (x :+ y)) (λ w x y z. w :+ x :+ y :+ z :* :0) tt (w ⊗ E 5) (x ⊗ E 4) (y ⊗ E 3) z
      ∙ sym (ap (λ r. w ⊗ E 5 ⊕ x ⊗ E 4 ⊕ y ⊗ E 3 ⊕ z ⊗ r) (low 2 (omega arith)))
  quad_conv w x y z E low (suc (suc (suc n))) =
      conv_suc R _ _ (suc (suc n))
      ∙ ap (λ r. w ⊗ E (3 + suc (suc (suc n))) ⊕ r) (conv_suc R _ _ (suc n)
      ∙ ap (λ r. x ⊗ E (3 + suc (suc n)) ⊕ r) (conv_suc R _ _ n ∙ ap (λ r. y ⊗ E (3 + suc n) ⊕ r) (conv_const R z _ n)))
      ∙ solve4 R (λ a b c d. a :+ (b :+ (c :+ d))) (λ a b c d. a :+ b :+ c :+ d) tt _ _ _ _
      ∙ ap₂ (λ i j. w ⊗ E (3 + suc (suc (suc n))) ⊕ x ⊗ E i ⊕ y ⊗ E j ⊕ z ⊗ E (3 + n)) second third
      ∙ ap (λ i. w ⊗ E (3 + suc (suc (suc n))) ⊕ x ⊗ E (2 + suc (suc (suc n))) ⊕ y ⊗ E (1 + suc (suc (suc n))) ⊕ z ⊗ E i) fourth
    where
      second : 3 + suc (suc n) ≡ 2 + suc (suc (suc n))
      second = omega arith

      third : 3 + suc n ≡ 1 + suc (suc (suc n))
      third = omega arith

      fourth : 3 + n ≡ suc (suc (suc n))
      fourth = omega arith

  -- the four terms of a from i on
  abbrev pub block : ℕ → Seq R → Seq R
  block i a = shift R i (quad (a i) (a (1 + i)) (a (2 + i)) (a (3 + i)))

  -- what is above i is a block, and what is above i + 4
  pub upper_block : (i : ℕ) (a : Seq R) → upper i a ≡ sums R (block i a) (upper (4 + i) a)
  upper_block i a = fun_ext λ k. go k (dec_lt k i) (dec_lt k (4 + i))
    where
      at : (j : ℕ) → block i a (i + j) ≡ quad (a i) (a (1 + i)) (a (2 + i)) (a (3 + i)) j
      at j = shift_at R i _ j

      four : (j : ℕ) → j < 4 → quad (a i) (a (1 + i)) (a (2 + i)) (a (3 + i)) j ≡ a (i + j)
      four zero l = ap a (omega arith)
      four (suc zero) l = ap a (omega arith)
      four (suc (suc zero)) l = ap a (omega arith)
      four (suc (suc (suc zero))) l = ap a (omega arith)
      four (suc (suc (suc (suc j)))) l = absurd (omega arith)

      none : (j : ℕ) → 4 ≤ j → quad (a i) (a (1 + i)) (a (2 + i)) (a (3 + i)) j ≡ 𝟘
      none zero l = absurd (omega arith)
      none (suc zero) l = absurd (omega arith)
      none (suc (suc zero)) l = absurd (omega arith)
      none (suc (suc (suc zero))) l = absurd (omega arith)
      none (suc (suc (suc (suc j)))) l = refl

      go : (k : ℕ) → Dec (k < i) → Dec (k < 4 + i) → upper i a k ≡ block i a k ⊕ upper (4 + i) a k
      go k (yes l) _ =
          upper_low i a k l ∙ sym (ap₂ ◌⊕◌ (shift_low R i _ k l) (upper_low (4 + i) a k (omega arith)) ∙ Ring.zero-add R 𝟘)
      go k (no l) (yes m) =
          let e : i + (k - i) ≡ k = omega arith in
          upper_high i a k (omega arith)
          ∙ sym (ap₂ ◌⊕◌ (ap (block i a) (sym e) ∙ at (k - i) ∙ four (k - i) (omega arith) ∙ ap a e) (upper_low (4 + i) a k m) ∙ CRing.add-zero R (a k))
      go k (no l) (no m) =
          let e : i + (k - i) ≡ k = omega arith in
          upper_high i a k (omega arith)
          ∙ sym (ap₂ ◌⊕◌ (ap (block i a) (sym e) ∙ at (k - i) ∙ none (k - i) (omega arith)) (upper_high (4 + i) a k (omega arith)) ∙ Ring.zero-add R (a k))

  -- a block times a factor that E holds behind three zeros
  pub block_low : (i : ℕ) (a F : Seq R) (k : ℕ) → k < i → conv R (block i a) F k ≡ 𝟘
  block_low i a F k l = ap (λ f. f k) (conv_shift R i _ F) ∙ shift_low R i _ k l

  pub block_at : (i : ℕ) (a E : Seq R) → ((j : ℕ) → j < 3 → E j ≡ 𝟘) → (n : ℕ)
      → conv R (block i a) (λ j. E (3 + j)) (i + n) ≡ a i ⊗ E (3 + n) ⊕ a (1 + i) ⊗ E (2 + n) ⊕ a (2 + i) ⊗ E (1 + n) ⊕ a (3 + i) ⊗ E n
  block_at i a E low n = ap (λ f. f (i + n)) (conv_shift R i _ _) ∙ shift_at R i _ n ∙ quad_conv _ _ _ _ E low n

  -- the square of what is above i: the block there, times what is above i and what is above the block, and the square of what is above the block
  pub square_step : (i : ℕ) (a : Seq R) (k : ℕ)
      → conv R (upper i a) (upper i a) k
      ≡ conv R (block i a) (sums R (upper i a) (upper (4 + i) a)) k ⊕ conv R (upper (4 + i) a) (upper (4 + i) a) k
  square_step i a k =
      ap (λ f. conv R f f k) (upper_block i a)
      ∙ ap (λ f. f k) (solve2 (Series R) (λ b u. (b :+ u) :* (b :+ u)) (λ b u. b :* (b :+ u :+ u) :+ u :* u) tt (block i a) (upper (4 + i) a))
      ∙ ap (λ f. conv R (block i a) (sums R f (upper (4 + i) a)) k ⊕ conv R (upper (4 + i) a) (upper (4 + i) a) k) (sym (upper_block i a))

  -- nothing is above a's end, and the square of what is above i has no term before 2i
  pub upper_none : (i : ℕ) (a b : Seq R) → Below R i a → (k : ℕ) → conv R (upper i a) b k ≡ 𝟘
  upper_none i a b past k =
      ap (λ f. conv R f b k) (fun_ext {g = zeros R} λ j. go j (dec_lt j i)) ∙ conv_zeros R b k
    where
      go : (j : ℕ) → Dec (j < i) → upper i a j ≡ 𝟘
      go j (yes l) = upper_low i a j l
      go j (no l) = upper_high i a j (omega arith) ∙ past j (omega arith)

  sum_null : (n : ℕ) → sum R (zeros R) n ≡ 𝟘
  unfolding sum
  sum_null zero = refl
  sum_null (suc n) = sum_suc R (zeros R) n ∙ ap (λ x. x ⊕ 𝟘) (sum_null n) ∙ CRing.add-zero R 𝟘

  pub upper_square : (i : ℕ) (a : Seq R) (k : ℕ) → k < i + i → conv R (upper i a) (upper i a) k ≡ 𝟘
  upper_square i a k l =
      conv_sum R (upper i a) (upper i a) k ∙ sum_same R _ (zeros R) (suc k) (λ j m. go j m (dec_lt j i)) ∙ sum_null (suc k)
    where
      go : (j : ℕ) → j < suc k → Dec (j < i) → upper i a j ⊗ upper i a (k - j) ≡ 𝟘
      go j m (yes h) = ap (λ x. x ⊗ upper i a (k - j)) (upper_low i a j h) ∙ Ring.zero-mul R _
      go j m (no h) = ap (λ x. upper i a j ⊗ x) (upper_low i a (k - j) (omega arith)) ∙ Ring.mul-zero R _
