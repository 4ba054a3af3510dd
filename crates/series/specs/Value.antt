-- The value of a polynomial at a point, by Horner's rule: it respects sums, products and whatever an expression makes of
-- polynomials, and depends on the coefficients alone.
-- Assumes nothing.
use Rattle.std.specs.Prelude.{◌≡◌, List, [], ◌∷◌}
use Rattle.std.proofs.Math.Path.{refl, sym, ap, ap₂}
use Rattle.std.proofs.Common.{◌∙◌, arith}
use Prim.Native.Nat.{ℕ, zero, suc, ◌+◌}
use Rattle.std.proofs.Math.Nat as N
use Rattle.ring.specs.Ring
use Rattle.ring.specs.Ring.{CRing, cast, pow, pow-zero, pow-suc}
use Rattle.ring.specs.Identity.{solve1, solve2, solve3, solve4, solve5}
use Rattle.ring.specs.Identity as I
use Rattle.ring.specs.Identity.{Ex, eval}
use Rattle.ring.specs.Identity.Ex.{var, num, :0, :1, ◌:+◌, ◌:-◌, ◌:*◌, :-◌, ◌:^◌}
use Rattle.series.specs.Series as S
use Rattle.series.specs.Series.{Series, Seq, conv, sums, negs, scaled, const, zeros, tail, head_then}
use Rattle.series.specs.Degree.{Below, Poly, Polys, conv_below, below_zeros, const_below, poly_zeros, poly_const, poly_pow, poly_eval}
use Rattle.series.specs.Indeterminate.{cast_series}

module _ (R : CRing) where
  open R use {Car, 𝟘, 𝟙, add as ◌⊕◌, mul as ◌⊗◌, neg, add-zero, add-neg}

  infixl 65 ◌⊕◌
  infixl 70 ◌⊗◌
  -- a₀ + a₁ u + .. + a_(n − 1) u^(n − 1)
  unfoldable pub value : ℕ → Seq R → Car → Car
  value zero a u = 𝟘
  value (suc n) a u = a 0 ⊕ u ⊗ value n (tail R a) u

  pub value_zero : (a : Seq R) (u : Car) → value 0 a u ≡ 𝟘
  unfolding value
  value_zero a u = refl

  -- the value of a polynomial, which does not depend on the bound of its degree
  abbrev pub at : (a : Seq R) → Poly R a → Car → Car
  at a p u = value p.0 a u

  value_null : (n : ℕ) (a : Seq R) (u : Car) → ((i : ℕ) → a i ≡ 𝟘) → value n a u ≡ 𝟘
  unfolding value
  value_null zero a u h = refl
  value_null (suc n) a u h =
      ap₂ (λ x y. x ⊕ u ⊗ y) (h 0) (value_null n (tail R a) u (λ i. h (suc i))) ∙ solve1 R (λ u. :0 :+ u :* :0) (λ u. :0) tt u

  -- the bound of the degree does not matter
  pub value_same : (m n : ℕ) (a b : Seq R) (u : Car) → Below R m a → Below R n b → ((i : ℕ) → a i ≡ b i) → value m a u ≡ value n b u
  unfolding value
  value_same zero n a b u ha hb e = sym (value_null n b u (λ i. sym (e i) ∙ ha i (omega arith)))
  value_same (suc m) zero a b u ha hb e = value_null (suc m) a u (λ i. e i ∙ hb i (omega arith))
  value_same (suc m) (suc n) a b u ha hb e =
      ap₂ (λ x y. x ⊕ u ⊗ y) (e 0)
      (value_same m n (tail R a) (tail R b) u (λ i l. ha (suc i) (omega arith)) (λ i l. hb (suc i) (omega arith)) (λ i. e (suc i)))

  pub value_sums : (n : ℕ) (a b : Seq R) (u : Car) → value n (sums R a b) u ≡ value n a u ⊕ value n b u
  unfolding value
  value_sums zero a b u = sym (add-zero 𝟘)
  value_sums (suc n) a b u =
      ap (λ y. a 0 ⊕ b 0 ⊕ u ⊗ y) (value_sums n (tail R a) (tail R b) u)
      ∙ solve5 R (λ a b u y z. a :+ b :+ u :* (y :+ z)) (λ a b u y z. a :+ u :* y :+ (b :+ u :* z)) tt (a 0) (b 0) u _ _

  pub value_scaled : (n : ℕ) (c : Car) (a : Seq R) (u : Car) → value n (scaled R c a) u ≡ c ⊗ value n a u
  unfolding value
  value_scaled zero c a u = sym (Ring.mul-zero R c)
  value_scaled (suc n) c a u =
      ap (λ y. c ⊗ a 0 ⊕ u ⊗ y) (value_scaled n c (tail R a) u)
      ∙ solve4 R (λ c a u y. c :* a :+ u :* (c :* y)) (λ c a u y. c :* (a :+ u :* y)) tt c (a 0) u _

  pub value_conv : (m n : ℕ) (a b : Seq R) (u : Car) → Below R m a → Below R n b → value (m + n) (conv R a b) u ≡ value m a u ⊗ value n b u
  unfolding value
  value_conv zero n a b u ha hb =
      value_null (zero + n) (conv R a b) u (λ i. ap (λ f. conv R f b i) (below_zeros R a ha) ∙ S.conv_zeros R b i) ∙ sym (Ring.zero-mul R _)
  value_conv (suc m) n a b u ha hb =
      ap (λ k. value k (conv R a b) u) (N.suc-add m n)
      ∙ ap (λ f. value (suc (m + n)) f u) (S.conv_split R a b)
      ∙ value_sums (suc (m + n)) (scaled R (a 0) b) (head_then R 𝟘 (conv R (tail R a) b)) u
      ∙ ap₂ (λ y z. y ⊕ (𝟘 ⊕ u ⊗ z))
      (value_scaled (suc (m + n)) (a 0) b u ∙ ap (λ y. a 0 ⊗ y) (value_same (suc (m + n)) n b b u (λ i l. hb i (omega arith)) hb (λ i. refl)))
      (value_conv m n (tail R a) b u (λ i l. ha (suc i) (omega arith)) hb)
      ∙ solve4 R (λ a u y z. a :* z :+ (:0 :+ u :* (y :* z))) (λ a u y z. (a :+ u :* y) :* z) tt (a 0) u _ _

  -- ── for use

  pub at_same : (a b : Seq R) (p : Poly R a) (q : Poly R b) (u : Car) → a ≡ b → at a p u ≡ at b q u
  at_same a b p q u e = value_same p.0 q.0 a b u p.1 q.1 (λ i. ap (λ f. f i) e)

  -- where c = a + b, and where c = a b
  pub at_add : (a b c : Seq R) (p : Poly R a) (q : Poly R b) (r : Poly R c) (u : Car) → sums R a b ≡ c → at c r u ≡ at a p u ⊕ at b q u
  at_add a b c p q r u e =
      value_same r.0 (p.0 + q.0) c (sums R a b) u r.1 below (λ i. ap (λ f. f i) (sym e))
      ∙ value_sums (p.0 + q.0) a b u
      ∙ ap₂ ◌⊕◌ (value_same _ p.0 a a u (λ i l. p.1 i (omega arith)) p.1 (λ i. refl))
      (value_same _ q.0 b b u (λ i l. q.1 i (omega arith)) q.1 (λ i. refl))
    where
      below : Below R (p.0 + q.0) (sums R a b)
      below i l = ap₂ ◌⊕◌ (p.1 i (omega arith)) (q.1 i (omega arith)) ∙ add-zero 𝟘

  pub at_mul : (a b c : Seq R) (p : Poly R a) (q : Poly R b) (r : Poly R c) (u : Car) → conv R a b ≡ c → at c r u ≡ at a p u ⊗ at b q u
  at_mul a b c p q r u e =
      value_same r.0 (p.0 + q.0) c (conv R a b) u r.1 (λ i l. conv_below R i p.0 q.0 a b p.1 q.1 l) (λ i. ap (λ f. f i) (sym e))
      ∙ value_conv p.0 q.0 a b u p.1 q.1

  -- ── the value of an expression is the expression of the values

  pub at_zeros : (p : Poly R (zeros R)) (u : Car) → at (zeros R) p u ≡ 𝟘
  at_zeros p u = value_null p.0 (zeros R) u (λ i. refl)

  pub at_neg : (a : Seq R) (p : Poly R a) (q : Poly R (negs R a)) (u : Car) → at (negs R a) q u ≡ neg (at a p u)
  at_neg a p q u =
      Ring.neg_unique R _ _
      (sym (at_add a (negs R a) (zeros R) p q (poly_zeros R) u (CRing.add-neg (Series R) a)) ∙ at_zeros (poly_zeros R) u)

  pub at_const : (c : Car) (p : Poly R (const R c)) (u : Car) → at (const R c) p u ≡ c
  unfolding value
  at_const c p u = at_same (const R c) (const R c) p (1, const_below R c) u refl ∙ solve2 R (λ c u. c :+ u :* :0) (λ c u. c) tt c u

  pub at_cast : (n : ℕ) (p : Poly R (cast (Series R) n)) (u : Car) → at (cast (Series R) n) p u ≡ cast R n
  at_cast n p u = at_same _ _ p (poly_const R (cast R n)) u (cast_series R n) ∙ at_const (cast R n) (poly_const R (cast R n)) u

  pub at_pow : (a : Seq R) (p : Poly R a) (n : ℕ) (q : Poly R (pow (Series R) a n)) (u : Car) → at (pow (Series R) a n) q u ≡ pow R (at a p u) n
  at_pow a p zero q u = at_same _ _ q (poly_const R 𝟙) u (pow-zero (Series R) a) ∙ at_const 𝟙 (poly_const R 𝟙) u ∙ sym (pow-zero R _)
  at_pow a p (suc n) q u =
      at_mul a (pow (Series R) a n) _ p (poly_pow R a p n) q u (sym (pow-suc (Series R) a n))
      ∙ ap (λ y. at a p u ⊗ y) (at_pow a p n (poly_pow R a p n) u) ∙ sym (pow-suc R _ n)

  -- the values of the variables
  abbrev pub values : (xs : List (Seq R)) → Polys R xs → Car → List Car
  values [] ps u = []
  values (a ∷ xs) ps u = at a ps.0 u ∷ values xs ps.1 u

  pub at_eval : (xs : List (Seq R)) (ps : Polys R xs) (e : Ex) (q : Poly R (eval (Series R) (I.at (Series R) xs) e)) (u : Car)
      → at (eval (Series R) (I.at (Series R) xs) e) q u ≡ eval R (I.at R (values xs ps u)) e
  at_eval xs ps (var i) q u = at_same _ _ q (poly_eval R xs ps (var i)) u refl ∙ go xs ps i (poly_eval R xs ps (var i))
    where
      go : (xs : List (Seq R)) (ps : Polys R xs) (i : ℕ) (q : Poly R (I.at (Series R) xs i)) → at (I.at (Series R) xs i) q u ≡ I.at R (values xs ps u) i
      go [] ps i q = at_zeros q u
      go (a ∷ xs) ps zero q = at_same a a q ps.0 u refl
      go (a ∷ xs) ps (suc i) q = go xs ps.1 i q
  at_eval xs ps (num n) q u = at_cast n q u
  at_eval xs ps :0 q u = at_zeros q u
  at_eval xs ps :1 q u = at_const 𝟙 q u
  at_eval xs ps (a :+ b) q u =
      at_add _ _ _ (poly_eval R xs ps a) (poly_eval R xs ps b) q u refl
      ∙ ap₂ ◌⊕◌ (at_eval xs ps a (poly_eval R xs ps a) u) (at_eval xs ps b (poly_eval R xs ps b) u)
  at_eval xs ps (a :- b) q u =
      at_add _ _ _ (poly_eval R xs ps a) (poly_eval R xs ps (:- b)) q u refl
      ∙ ap₂ ◌⊕◌ (at_eval xs ps a (poly_eval R xs ps a) u)
      (at_neg _ (poly_eval R xs ps b) (poly_eval R xs ps (:- b)) u ∙ ap neg (at_eval xs ps b (poly_eval R xs ps b) u))
  at_eval xs ps (a :* b) q u =
      at_mul _ _ _ (poly_eval R xs ps a) (poly_eval R xs ps b) q u refl
      ∙ ap₂ ◌⊗◌ (at_eval xs ps a (poly_eval R xs ps a) u) (at_eval xs ps b (poly_eval R xs ps b) u)
  at_eval xs ps (:- a) q u = at_neg _ (poly_eval R xs ps a) q u ∙ ap neg (at_eval xs ps a (poly_eval R xs ps a) u)
  at_eval xs ps (a :^ n) q u = at_pow _ (poly_eval R xs ps a) n q u ∙ ap (λ y. pow R y n) (at_eval xs ps a (poly_eval R xs ps a) u)
