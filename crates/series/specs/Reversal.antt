-- Reversal: `rev n P` is tⁿ P (1/t), the coefficients of P from that of xⁿ down. `Reversed n P Q`: P is a polynomial of degree at most n, and Q
-- is P reversed. Sums, products and Euler's derivation go through.
-- Assumes nothing.
use Rattle.std.specs.Prelude.{◌≡◌}
use Rattle.std.proofs.Math.Path.{refl, sym, ap, ap₂, fun_ext}
use Rattle.std.proofs.Common.{◌∙◌, subst, arith}
use Prim.Native.Nat.{ℕ, zero, suc, ◌+◌, ◌*◌, ◌-◌, ◌≤◌, ◌<◌}
use Rattle.std.proofs.Math.Decide.{dec_le}
use Rattle.std.proofs.Math.Nat as N
use Rattle.ring.specs.Ring
use Rattle.ring.specs.Ring.{CRing, cast, cast_suc, pow, pow-zero, pow-suc}
use Rattle.ring.specs.Identity.{solve1, solve2, solve3}
use Rattle.ring.specs.Identity.Ex.{num, :0, :1, ◌:+◌, ◌:-◌, ◌:*◌, :-◌}
use Rattle.series.specs.Series as S
use Rattle.series.specs.Series.{Series, Seq, conv, sums, negs, scaled, tail, head_then, const, zeros, D, D_at}
use Rattle.series.specs.Degree.{Below, degree_mul}
use Rattle.series.specs.Indeterminate.{ind, conv_ind, conv_cast, cast_series}

module _ (R : CRing) where
  open R use {Car, 𝟘, 𝟙, add as ◌⊕◌, mul as ◌⊗◌, neg, add-zero}

  infixl 65 ◌⊕◌
  infixl 70 ◌⊗◌
  unfoldable pub rev : ℕ → Seq R → Seq R
  rev zero P = const R (P 0)
  rev (suc n) P = head_then R (P (suc n)) (rev n P)

  pub rev_first : (n : ℕ) (P : Seq R) → rev n P 0 ≡ P n
  unfolding rev
  rev_first zero P = refl
  rev_first (suc n) P = refl

  pub rev_at : (i j : ℕ) (P : Seq R) → rev (i + j) P j ≡ P i
  unfolding rev
  rev_at i zero P = ap (λ m. rev m P 0) (N.add-zero i) ∙ rev_first i P
  rev_at i (suc j) P = ap (λ m. rev m P (suc j)) (N.add-suc i j) ∙ rev_at i j P

  pub rev_sub : (n k : ℕ) (P : Seq R) → k ≤ n → rev n P k ≡ P (n - k)
  rev_sub n k P l = ap (λ m. rev m P k) (omega arith) ∙ rev_at (n - k) k P

  pub rev_past : (n i : ℕ) (P : Seq R) → n < i → rev n P i ≡ 𝟘
  unfolding rev
  rev_past n zero P h = absurd (omega arith)
  rev_past zero (suc i) P h = refl
  rev_past (suc n) (suc i) P h = rev_past n i P (omega arith)

  -- a · tᵏ
  unfoldable pub shift : ℕ → Seq R → Seq R
  shift zero a = a
  shift (suc k) a = head_then R 𝟘 (shift k a)

  pub shift_low : (k : ℕ) (a : Seq R) (i : ℕ) → i < k → shift k a i ≡ 𝟘
  unfolding shift
  shift_low zero a i h = absurd (omega arith)
  shift_low (suc k) a zero h = refl
  shift_low (suc k) a (suc i) h = shift_low k a i (omega arith)

  pub shift_at : (k : ℕ) (a : Seq R) (i : ℕ) → shift k a (k + i) ≡ a i
  unfolding shift
  shift_at zero a i = ap a (N.zero-add i)
  shift_at (suc k) a i = ap (shift (suc k) a) (N.suc-add k i) ∙ shift_at k a i

  -- ── products with tᵏ

  pub conv_shift : (k : ℕ) (a b : Seq R) → conv R (shift k a) b ≡ shift k (conv R a b)
  unfolding shift
  conv_shift zero a b = refl
  conv_shift (suc k) a b =
      S.conv_cons R 𝟘 (shift k a) b
      ∙ fun_ext (λ i. ap (λ x. x ⊕ head_then R 𝟘 (conv R (shift k a) b) i) (Ring.zero-mul R (b i)) ∙ Ring.zero-add R _)
      ∙ ap (head_then R 𝟘) (conv_shift k a b)

  head_map : (f : Car → Car) → f 𝟘 ≡ 𝟘 → (a b : Seq R) → ((i : ℕ) → a i ≡ f (b i)) → (i : ℕ) → head_then R 𝟘 a i ≡ f (head_then R 𝟘 b i)
  head_map f z a b h zero = sym z
  head_map f z a b h (suc i) = h i

  shift_scaled : (k : ℕ) (c : Car) (a : Seq R) (i : ℕ) → shift k (scaled R c a) i ≡ c ⊗ shift k a i
  unfolding shift
  shift_scaled zero c a i = refl
  shift_scaled (suc k) c a i = head_map (λ x. c ⊗ x) (Ring.mul-zero R c) _ _ (shift_scaled k c a) i

  shift_null : (k : ℕ) (a : Seq R) → ((i : ℕ) → a i ≡ 𝟘) → (i : ℕ) → shift k a i ≡ 𝟘
  unfolding shift
  shift_null zero a h i = h i
  shift_null (suc k) a h zero = refl
  shift_null (suc k) a h (suc i) = shift_null k a h i

  -- ── what reversal keeps

  rev_sums : (n : ℕ) (P Q : Seq R) (i : ℕ) → rev n (sums R P Q) i ≡ rev n P i ⊕ rev n Q i
  unfolding rev
  rev_sums zero P Q zero = refl
  rev_sums zero P Q (suc i) = sym (add-zero 𝟘)
  rev_sums (suc n) P Q zero = refl
  rev_sums (suc n) P Q (suc i) = rev_sums n P Q i

  rev_scaled : (n : ℕ) (c : Car) (P : Seq R) (i : ℕ) → rev n (scaled R c P) i ≡ c ⊗ rev n P i
  unfolding rev
  rev_scaled zero c P zero = refl
  rev_scaled zero c P (suc i) = sym (Ring.mul-zero R c)
  rev_scaled (suc n) c P zero = refl
  rev_scaled (suc n) c P (suc i) = rev_scaled n c P i

  rev_negs : (n : ℕ) (P : Seq R) (i : ℕ) → rev n (negs R P) i ≡ neg (rev n P i)
  unfolding rev
  rev_negs zero P zero = refl
  rev_negs zero P (suc i) = sym (Ring.neg-zero R)
  rev_negs (suc n) P zero = refl
  rev_negs (suc n) P (suc i) = rev_negs n P i

  -- Euler's derivation of x is n less that of t
  rev_D : (n : ℕ) (P : Seq R) (i : ℕ) → rev n (D R P) i ≡ cast R n ⊗ rev n P i ⊕ neg (cast R i ⊗ rev n P i)
  unfolding rev D
  rev_D zero P zero = solve1 R (λ x. num 0 :* x) (λ x. num 0 :* x :- num 0 :* x) tt (P 0)
  rev_D zero P (suc i) = solve2 R (λ c k. :0) (λ c k. c :* :0 :- k :* :0) tt _ _
  rev_D (suc n) P zero = solve2 R (λ c x. c :* x) (λ c x. c :* x :- num 0 :* x) tt (cast R (suc n)) (P (suc n))
  rev_D (suc n) P (suc i) =
      rev_D n P i
      ∙ solve3 R (λ n i x. n :* x :- i :* x) (λ n i x. (n :+ :1) :* x :- (i :+ :1) :* x) tt (cast R n) (cast R i) (rev n P i)
      ∙ sym (ap₂ (λ a b. a ⊗ rev n P i ⊕ neg (b ⊗ rev n P i)) (cast_suc R n) (cast_suc R i))

  -- a longer polynomial: c + x P
  rev_cons : (n : ℕ) (c : Car) (P : Seq R) (i : ℕ) → rev (suc n) (head_then R c P) i ≡ shift (suc n) (const R c) i ⊕ rev n P i
  unfolding rev shift
  rev_cons zero c P zero = sym (Ring.zero-add R _)
  rev_cons zero c P (suc zero) = sym (add-zero c)
  rev_cons zero c P (suc (suc i)) = sym (add-zero 𝟘)
  rev_cons (suc n) c P zero = sym (Ring.zero-add R _)
  rev_cons (suc n) c P (suc i) = rev_cons n c P i

  -- x P
  rev_times_x : (n : ℕ) (P : Seq R) → rev (suc n) (head_then R 𝟘 P) ≡ rev n P
  rev_times_x n P = fun_ext λ i. rev_cons n 𝟘 P i ∙ ap (λ x. x ⊕ rev n P i) (shift_null (suc n) (const R 𝟘) (S.const_null R) i) ∙ Ring.zero-add R _

  rev_raise : (k n : ℕ) (P : Seq R) → Below R (suc n) P → rev (k + n) P ≡ shift k (rev n P)
  unfolding rev shift
  rev_raise zero n P h = ap (λ m. rev m P) (N.zero-add n)
  rev_raise (suc k) n P h =
      ap (λ m. rev m P) (N.suc-add k n) ∙ ap₂ (head_then R) (h (suc (k + n)) (omega arith)) (rev_raise k n P h)

  rev_mul : (m n : ℕ) (P Q : Seq R) → Below R (suc m) P → Below R (suc n) Q → rev (m + n) (conv R P Q) ≡ conv R (rev m P) (rev n Q)
  unfolding rev
  rev_mul zero n P Q hP hQ =
      ap₂ rev (N.zero-add n) (ap (λ f. conv R f Q) (S.split R P ∙ ap (head_then R (P 0)) (fun_ext λ i. hP (suc i) (omega arith))) ∙ sym
      (S.conv_scalar R (P 0) Q))
      ∙ fun_ext (rev_scaled n (P 0) Q) ∙ S.conv_scalar R (P 0) (rev n Q)
  rev_mul (suc m) n P Q hP hQ =
      ap₂ rev (N.suc-add m n) (ap (λ f. conv R f Q) (S.split R P) ∙ S.conv_cons R (P 0) (tail R P) Q)
      ∙ fun_ext (rev_sums (suc (m + n)) (scaled R (P 0) Q) (head_then R 𝟘 (conv R (tail R P) Q)))
      ∙ ap₂ (sums R) low (rev_times_x (m + n) (conv R (tail R P) Q) ∙ rev_mul m n (tail R P) Q (λ i h. hP (suc i) (omega arith)) hQ)
      ∙ sym (fun_ext (S.conv_sums R (shift (suc m) (const R (P 0))) (rev m (tail R P)) (rev n Q)))
      ∙ ap (λ f. conv R f (rev n Q)) (sym (ap (rev (suc m)) (S.split R P) ∙ fun_ext (rev_cons m (P 0) (tail R P))))
    where
      low : rev (suc (m + n)) (scaled R (P 0) Q) ≡ conv R (shift (suc m) (const R (P 0))) (rev n Q)
      low =
          fun_ext (rev_scaled (suc (m + n)) (P 0) Q)
          ∙ ap (scaled R (P 0)) (ap (λ k. rev k Q) (sym (N.suc-add m n)) ∙ rev_raise (suc m) n Q hQ)
          ∙ sym (fun_ext (shift_scaled (suc m) (P 0) (rev n Q)))
          ∙ ap (shift (suc m)) (S.conv_scalar R (P 0) (rev n Q))
          ∙ sym (conv_shift (suc m) (const R (P 0)) (rev n Q))

  -- ── the relation

  pub record Reversed (n : ℕ) (P Q : Seq R) : Type 0 where
    pub below : Below R (suc n) P
    pub same : rev n P ≡ Q

  pub r_degree : {m n : ℕ} {P Q : Seq R} → m ≡ n → Reversed m P Q → Reversed n P Q
  r_degree {P = P} {Q = Q} e h = subst (λ k. Reversed k P Q) e h

  pub r_left : {n : ℕ} {P P' Q : Seq R} → P ≡ P' → Reversed n P Q → Reversed n P' Q
  r_left {n = n} {Q = Q} e h = subst (λ p. Reversed n p Q) e h

  pub r_right : {n : ℕ} {P Q Q' : Seq R} → Q ≡ Q' → Reversed n P Q → Reversed n P Q'
  r_right {n = n} {P = P} e h = subst (λ q. Reversed n P q) e h

  pub r_add : {n : ℕ} {P Q P' Q' : Seq R} → Reversed n P Q → Reversed n P' Q' → Reversed n (sums R P P') (sums R Q Q')
  r_add {n} {P} {Q} {P'} h h' = record {
    below = λ i g. ap₂ ◌⊕◌ (h.below i g) (h'.below i g) ∙ add-zero 𝟘;
    same = fun_ext (rev_sums n P P') ∙ ap₂ (sums R) h.same h'.same;
  }

  pub r_neg : {n : ℕ} {P Q : Seq R} → Reversed n P Q → Reversed n (negs R P) (negs R Q)
  r_neg {n} {P} h = record {
    below = λ i g. ap neg (h.below i g) ∙ Ring.neg-zero R;
    same = fun_ext (rev_negs n P) ∙ ap (negs R) h.same;
  }

  pub r_mul : {m n : ℕ} {P Q P' Q' : Seq R} → Reversed m P Q → Reversed n P' Q' → Reversed (m + n) (conv R P P') (conv R Q Q')
  r_mul {m} {n} {P} {Q} {P'} h h' = record {
    below = λ i g. degree_mul R m n P P' h.below h'.below i g;
    same = rev_mul m n P P' h.below h'.below ∙ ap₂ (conv R) h.same h'.same;
  }

  pub r_const : (c : Car) → Reversed 0 (const R c) (const R c)
  unfolding rev
  r_const c = record { below = below; same = refl }
    where
      below : Below R 1 (const R c)
      below zero g = absurd (omega arith)
      below (suc i) g = refl

  pub r_pow : {n : ℕ} {P Q : Seq R} → Reversed n P Q → (k : ℕ) → Reversed (k * n) (pow (Series R) P k) (pow (Series R) Q k)
  r_pow {n} {P} {Q} h zero =
      r_degree (sym (N.zero-mul n)) (r_left (sym (pow-zero (Series R) P)) (r_right (sym (pow-zero (Series R) Q)) (r_const 𝟙)))
  r_pow {n} {P} {Q} h (suc k) =
      r_degree (N.add_comm n (k * n) ∙ sym (N.suc-mul k n)) (r_left (sym (pow-suc (Series R) P k))
      (r_right (sym (pow-suc (Series R) Q k)) (r_mul h (r_pow h k))))

  -- read as of one degree more
  pub r_up : {n : ℕ} {P Q : Seq R} → Reversed n P Q → Reversed (suc n) P (conv R (ind R) Q)
  unfolding rev
  r_up {n} {P} {Q} h = record {
    below = λ i g. h.below i (omega arith);
    same = ap₂ (head_then R) (h.below (suc n) (omega arith)) h.same ∙ sym (conv_ind R Q);
  }

  pub r_cast : (n : ℕ) → Reversed 0 (cast (Series R) n) (cast (Series R) n)
  r_cast n = subst (λ p. Reversed 0 p p) (sym (cast_series R n)) (r_const (cast R n))

  pub r_ind : Reversed 1 (ind R) (const R 𝟙)
  unfolding rev ind
  r_ind = record { below = below; same = ap (head_then R 𝟙) (fun_ext (S.const_null R)) }
    where
      below : Below R 2 (ind R)
      below zero g = absurd (omega arith)
      below (suc zero) g = absurd (omega arith)
      below (suc (suc i)) g = refl

  pub r_down : {n : ℕ} {P Q : Seq R} → Reversed (suc n) (conv R (ind R) P) Q → Reversed n P Q
  r_down {n} {P} h = record {
    below = λ i g. ap (λ f. f (suc i)) (sym (conv_ind R P)) ∙ h.below (suc i) (omega arith);
    same = sym (rev_times_x n P) ∙ ap (rev (suc n)) (sym (conv_ind R P)) ∙ h.same;
  }

  pub r_D : {n : ℕ} {P Q : Seq R} → Reversed n P Q → Reversed n (D R P) (sums R (conv R (cast (Series R) n) Q) (negs R (D R Q)))
  r_D {n} {P} {Q} h = record {
    below = λ i g. D_at R P i ∙ ap (λ x. cast R i ⊗ x) (h.below i g) ∙ Ring.mul-zero R _;
    same =
        fun_ext (rev_D n P)
        ∙ fun_ext (λ i. ap₂ (λ x y. x ⊕ neg y) (sym (conv_cast R n (rev n P) i)) (sym (D_at R (rev n P) i)))
        ∙ ap (λ q. sums R (conv R (cast (Series R) n) q) (negs R (D R q))) h.same;
  }

  pub r_same : {n : ℕ} {P P' Q Q' : Seq R} → P ≡ P' → Reversed n P Q → Reversed n P' Q' → Q ≡ Q'
  r_same {n} e h h' = sym h.same ∙ ap (rev n) e ∙ h'.same

  -- and back
  pub rev_rev : (n : ℕ) (P Q : Seq R) → Below R (suc n) P → Below R (suc n) Q → rev n P ≡ rev n Q → P ≡ Q
  rev_rev n P Q hP hQ e = fun_ext λ i. go i (dec_le i n)
    where
      go : (i : ℕ) → Dec (i ≤ n) → P i ≡ Q i
      go i (yes l) =
          let k : i + (n - i) ≡ n = omega arith in
          sym (rev_at i (n - i) P) ∙ ap (λ m. rev m P (n - i)) k ∙ ap (λ f. f (n - i)) e ∙ ap (λ m. rev m Q (n - i)) (sym k) ∙ rev_at i (n - i) Q
      go i (no l) = hP i (omega arith) ∙ sym (hQ i (omega arith))

  pub r_back : {n : ℕ} {P P' Q Q' : Seq R} → Q ≡ Q' → Reversed n P Q → Reversed n P' Q' → P ≡ P'
  r_back {n} {P} {P'} e h h' = rev_rev n P P' h.below h'.below (h.same ∙ e ∙ sym h'.same)

  -- what is reversed has no coefficient past the degree either
  pub r_past : {n : ℕ} {P Q : Seq R} → Reversed n P Q → Below R (suc n) Q
  r_past {n} {P} h i g = ap (λ f. f i) (sym h.same) ∙ rev_past n i P g

  pub r_zero : (n : ℕ) → Reversed n (zeros R) (zeros R)
  unfolding rev
  r_zero n = record { below = λ i g. refl; same = fun_ext (go n) }
    where
      go : (n i : ℕ) → rev n (zeros R) i ≡ 𝟘
      go zero i = S.const_null R i
      go (suc n) zero = refl
      go (suc n) (suc i) = go n i
