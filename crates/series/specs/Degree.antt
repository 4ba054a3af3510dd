-- Polynomials are sequences that are zero from some place on. Sums, products, derivatives and whatever an expression makes of polynomials are
-- polynomials; the leading coefficient of a product; cancelling a factor whose leading coefficient is a unit; degrees over a field.
-- Assumes nothing.
use Rattle.std.specs.Prelude.{◌≡◌, refl, ◌⊎◌, List, [], ◌∷◌, ℕ, zero, suc, ◌+◌, ◌≤◌, ◌<◌}
use Rattle.std.proofs.Common.{sym, ◌∙◌, ap, ap₂, subst, inl, inr, arith}
use Rattle.std.proofs.Math.Path.{fun_ext}
use Rattle.std.proofs.Math.Nat as N
use Rattle.ring.specs.Ring
use Rattle.ring.specs.Ring.{CRing, cast, cast_zero, cast_suc, pow, pow-zero, pow-suc}
use Rattle.ring.specs.Identity.{Ex, eval, at, solve3}
use Rattle.ring.specs.Identity.Ex.{var, num, :0, :1, ◌:+◌, ◌:-◌, ◌:*◌, :-◌, ◌:^◌}
use Rattle.series.specs.Series.{Series, Seq, conv, sums, negs, scaled, const, zeros, tail, conv_zero, conv_suc, conv_zeros, conv_const, ∂, ∂-at}
use Rattle.ring.specs.Field.{Inverse, Field, unit_cancel}

module _ (R : CRing) where
  open R use {Car, 𝟘, 𝟙, add as ◌⊕◌, mul as ◌⊗◌, neg, add-zero, mul-one}

  infixl 65 ◌⊕◌
  infixl 70 ◌⊗◌
  -- a polynomial of at most n coefficients: of degree below n
  abbrev pub Below : ℕ → Seq R → Type 0
  Below n a = (i : ℕ) → n ≤ i → a i ≡ 𝟘

  -- the numbers of coefficients add
  pub conv_below : (k m n : ℕ) (a b : Seq R) → Below m a → Below n b → m + n ≤ k → conv R a b k ≡ 𝟘
  conv_below zero m n a b ha hb h = conv_zero R a b ∙ ap (λ x. x ⊗ b 0) (ha 0 (omega arith)) ∙ Ring.zero-mul R _
  conv_below (suc k) zero n a b ha hb h = ap (λ f. conv R f b (suc k)) (fun_ext λ i. ha i (omega arith)) ∙ conv_zeros R b (suc k)
  conv_below (suc k) (suc m) n a b ha hb h =
      conv_suc R a b k
      ∙ ap₂ ◌⊕◌ (ap (λ x. a 0 ⊗ x) (hb (suc k) (omega arith)) ∙ Ring.mul-zero R _)
      (conv_below k m n (tail R a) b (λ i g. ha (suc i) (omega arith)) hb (omega arith))
      ∙ add-zero 𝟘

  -- bounds of what is made of polynomials
  pub below_mono : (m n : ℕ) (a : Seq R) → m ≤ n → Below m a → Below n a
  below_mono m n a l h i g = h i (omega arith)

  pub sums_below : (n : ℕ) (a b : Seq R) → Below n a → Below n b → Below n (sums R a b)
  sums_below n a b ha hb i l = ap₂ ◌⊕◌ (ha i l) (hb i l) ∙ add-zero 𝟘

  pub negs_below : (n : ℕ) (a : Seq R) → Below n a → Below n (negs R a)
  negs_below n a h i l = ap neg (h i l) ∙ Ring.neg-zero R

  pub scaled_below : (n : ℕ) (c : Car) (a : Seq R) → Below n a → Below n (scaled R c a)
  scaled_below n c a h i l = ap (λ x. c ⊗ x) (h i l) ∙ Ring.mul-zero R c

  pub product_below : (m n : ℕ) (a b : Seq R) → Below m a → Below n b → Below (m + n) (conv R a b)
  product_below m n a b ha hb i l = conv_below i m n a b ha hb l

  -- a polynomial: zero from some place on
  abbrev pub Poly : Seq R → Type 0
  Poly a = (n : ℕ) × Below n a

  -- ── what is a polynomial

  pub poly_zeros : Poly (zeros R)
  poly_zeros = (0, λ i l. refl)

  pub const_below : (c : Car) → Below 1 (const R c)
  const_below c zero l = absurd (omega arith)
  const_below c (suc i) l = refl

  pub poly_const : (c : Car) → Poly (const R c)
  poly_const c = (1, const_below c)

  pub poly_add : (a b : Seq R) → Poly a → Poly b → Poly (sums R a b)
  poly_add a b p q = (p.0 + q.0, λ i l. ap₂ ◌⊕◌ (p.1 i (omega arith)) (q.1 i (omega arith)) ∙ add-zero 𝟘)

  pub poly_neg : (a : Seq R) → Poly a → Poly (negs R a)
  poly_neg a p = (p.0, λ i l. ap neg (p.1 i l) ∙ Ring.neg-zero R)

  pub poly_mul : (a b : Seq R) → Poly a → Poly b → Poly (conv R a b)
  poly_mul a b p q = (p.0 + q.0, λ i l. conv_below i p.0 q.0 a b p.1 q.1 l)

  pub poly_∂ : (a : Seq R) → Poly a → Poly (∂ R a)
  poly_∂ a p = (p.0, λ i l. ∂-at R a i ∙ ap (λ x. cast R (suc i) ⊗ x) (p.1 (suc i) (omega arith)) ∙ Ring.mul-zero R _)

  -- the derivative has one coefficient less
  pub ∂-below : (n : ℕ) (a : Seq R) → Below (suc n) a → Below n (∂ R a)
  ∂-below n a h i l = ∂-at R a i ∙ ap (λ x. cast R (suc i) ⊗ x) (h (suc i) (omega arith)) ∙ Ring.mul-zero R _

  pub poly_cast : (n : ℕ) → Poly (cast (Series R) n)
  poly_cast zero = subst Poly (sym (cast_zero (Series R))) poly_zeros
  poly_cast (suc n) = subst Poly (sym (cast_suc (Series R) n)) (poly_add (cast (Series R) n) (const R 𝟙) (poly_cast n) (poly_const 𝟙))

  pub poly_pow : (a : Seq R) → Poly a → (n : ℕ) → Poly (pow (Series R) a n)
  poly_pow a p zero = subst Poly (sym (pow-zero (Series R) a)) (poly_const 𝟙)
  poly_pow a p (suc n) = subst Poly (sym (pow-suc (Series R) a n)) (poly_mul a (pow (Series R) a n) p (poly_pow a p n))

  -- an expression in polynomials: `poly_eval xs (p, (q, .. tt)) e`, where xs = a ∷ b ∷ .., p : Poly a, q : Poly b, ..
  abbrev pub Polys : List (Seq R) → Type 0
  Polys [] = Unit {0}
  Polys (a ∷ xs) = Poly a × Polys xs

  poly_at : (xs : List (Seq R)) → Polys xs → (i : ℕ) → Poly (at (Series R) xs i)
  poly_at [] ps i = poly_zeros
  poly_at (a ∷ xs) ps zero = ps.0
  poly_at (a ∷ xs) ps (suc i) = poly_at xs ps.1 i

  pub poly_eval : (xs : List (Seq R)) → Polys xs → (e : Ex) → Poly (eval (Series R) (at (Series R) xs) e)
  poly_eval xs ps (var i) = poly_at xs ps i
  poly_eval xs ps (num n) = poly_cast n
  poly_eval xs ps :0 = poly_zeros
  poly_eval xs ps :1 = poly_const 𝟙
  poly_eval xs ps (a :+ b) = poly_add _ _ (poly_eval xs ps a) (poly_eval xs ps b)
  poly_eval xs ps (a :- b) = poly_add _ _ (poly_eval xs ps a) (poly_neg _ (poly_eval xs ps b))
  poly_eval xs ps (a :* b) = poly_mul _ _ (poly_eval xs ps a) (poly_eval xs ps b)
  poly_eval xs ps (:- a) = poly_neg _ (poly_eval xs ps a)
  poly_eval xs ps (a :^ n) = poly_pow _ (poly_eval xs ps a) n

  -- ── degrees

  pub below_drop : (m : ℕ) (a : Seq R) → Below (suc m) a → a m ≡ 𝟘 → Below m a
  below_drop m a h e i l = go (N.eq-or-lt_of_le l)
    where
      go : (m ≡ i) ⊎ (m < i) → a i ≡ 𝟘
      go (inl s) = subst (λ j. a j ≡ 𝟘) s e
      go (inr g) = h i g

  pub below_zeros : (a : Seq R) → Below 0 a → a ≡ zeros R
  below_zeros a h = fun_ext λ i. h i (omega arith)

  -- a polynomial without x is a constant
  pub below_const : (a : Seq R) → Below 1 a → a ≡ const R (a 0)
  below_const a h = fun_ext go
    where
      go : (i : ℕ) → a i ≡ const R (a 0) i
      go zero = refl
      go (suc i) = h (suc i) (omega arith)

  -- the coefficient of x^(m + n) of a product of degrees m and n
  pub top : (m n : ℕ) (a b : Seq R) → Below (suc m) a → Below (suc n) b → conv R a b (m + n) ≡ a m ⊗ b n
  top zero n a b ha hb =
      ap (conv R a b) (N.zero-add n) ∙ ap (λ f. conv R f b n) (below_const a ha) ∙ conv_const R (a 0) b n
  top (suc m) n a b ha hb =
      ap (conv R a b) (N.suc-add m n) ∙ conv_suc R a b (m + n)
      ∙ ap₂ ◌⊕◌ (ap (λ x. a 0 ⊗ x) (hb (suc (m + n)) (omega arith)) ∙ Ring.mul-zero R (a 0)) (top m n (tail R a) b (λ i l. ha (suc i) (omega arith)) hb)
      ∙ Ring.zero-add R _

  pub degree_mul : (m n : ℕ) (a b : Seq R) → Below (suc m) a → Below (suc n) b → Below (suc (m + n)) (conv R a b)
  degree_mul m n a b ha hb i l = go (N.eq-or-lt_of_le l)
    where
      go : (suc (m + n) ≡ i) ⊎ (suc (m + n) < i) → conv R a b i ≡ 𝟘
      go (inl e) =
          ap (conv R a b) (omega arith) ∙ top (suc m) n a b (λ j g. ha j (omega arith)) hb
          ∙ ap (λ x. x ⊗ b n) (ha (suc m) (omega arith)) ∙ Ring.zero-mul R (b n)
      go (inr g) = conv_below i (suc m) (suc n) a b ha hb (omega arith)

  -- degree n, with a unit for leading coefficient; with leading coefficient 1
  pub record Leading (n : ℕ) (a : Seq R) : Type 0 where
    pub below : Below (suc n) a
    pub unit : Inverse R (a n)

  pub record Monic (n : ℕ) (a : Seq R) : Type 0 where
    pub below : Below (suc n) a
    pub one : a n ≡ 𝟙

  pub leading : (n : ℕ) (a : Seq R) → Monic n a → Leading n a
  leading n a h = record { below = h.below; unit = (𝟙, mul-one (a n) ∙ h.one) }

  pub leading_poly : (n : ℕ) (a : Seq R) → Leading n a → Poly a
  leading_poly n a h = (suc n, h.below)

  pub monic_poly : (n : ℕ) (a : Seq R) → Monic n a → Poly a
  monic_poly n a h = (suc n, h.below)

  pub leading_mul : (m n : ℕ) (a b : Seq R) → Leading m a → Leading n b → Leading (m + n) (conv R a b)
  leading_mul m n a b ha hb = record {
    below = degree_mul m n a b ha.below hb.below;
    unit = (
      ha.unit.0 ⊗ hb.unit.0,
      ap (λ x. x ⊗ (ha.unit.0 ⊗ hb.unit.0)) (top m n a b ha.below hb.below)
          ∙ four (a m) (b n) ha.unit.0 hb.unit.0 ∙ ap₂ ◌⊗◌ ha.unit.1 hb.unit.1 ∙ mul-one 𝟙,
    );
  }
    where
      four : (x y u v : Car) → x ⊗ y ⊗ (u ⊗ v) ≡ x ⊗ u ⊗ (y ⊗ v)
      four x y u v = R.mul_assoc x y (u ⊗ v) ∙ ap (λ z. x ⊗ z) (Ring.mul_left_comm R y u v) ∙ sym (R.mul_assoc x u (y ⊗ v))

  pub monic_mul : (m n : ℕ) (a b : Seq R) → Monic m a → Monic n b → Monic (m + n) (conv R a b)
  monic_mul m n a b ha hb = record {
    below = degree_mul m n a b ha.below hb.below;
    one = top m n a b ha.below hb.below ∙ ap₂ ◌⊗◌ ha.one hb.one ∙ mul-one 𝟙;
  }

  -- over a field, a polynomial is zero or has a degree
  pub degree : Field R → (n : ℕ) (a : Seq R) → Below n a → (a ≡ zeros R) ⊎ ((m : ℕ) × (m < n) × Leading m a)
  degree F zero a h = inl (below_zeros a h)
  degree F (suc n) a h = go (F.zero? (a n)) (degree F n a)
    where
      up : (a ≡ zeros R) ⊎ ((m : ℕ) × (m < n) × Leading m a) → (a ≡ zeros R) ⊎ ((m : ℕ) × (m < suc n) × Leading m a)
      up (inl e) = inl e
      up (inr (m, l, L)) = inr (m, N.le_step l, L)

      go : Dec (a n ≡ 𝟘) → (Below n a → (a ≡ zeros R) ⊎ ((m : ℕ) × (m < n) × Leading m a)) → (a ≡ zeros R) ⊎ ((m : ℕ) × (m < suc n) × Leading m a)
      go (yes e) rec = up (rec (below_drop n a h e))
      go (no e) rec = inr (n, N.le_refl (suc n), record { below = h; unit = F.invert (a n) e })

  -- where b has degree n, the degree of k is that of b k less n
  pub factor_below : (n : ℕ) (b k : Seq R) → Leading n b → Poly k → (j : ℕ) → Below (n + j) (conv R b k) → Below j k
  factor_below n b k L p j h = go p.0 (λ i l. p.1 i (omega arith))
    where
      go : (e : ℕ) → Below (e + j) k → Below j k
      go zero hk = λ i l. hk i (omega arith)
      go (suc e) hk =
          let hk' : Below (suc (e + j)) k = λ i l. hk i (omega arith) in
          go e (below_drop (e + j) k hk'
          (unit_cancel R (b n) (k (e + j)) L.unit (sym (top n (e + j) b k L.below hk') ∙ h (n + (e + j)) (omega arith))))

  -- ── cancelling

  -- a polynomial that is no zero divisor
  abbrev pub Regular : Seq R → Type 0
  Regular a = (b : Seq R) → Poly b → conv R a b ≡ zeros R → b ≡ zeros R

  pub leading_regular : (n : ℕ) (a : Seq R) → Leading n a → Regular a
  leading_regular n a L b p e = below_zeros b (factor_below n a b L p 0 (λ i l. ap (λ f. f i) e))

  pub regular_pow : (a : Seq R) → Poly a → Regular a → (n : ℕ) → Regular (pow (Series R) a n)
  regular_pow a pa r zero b p e =
      sym (Ring.one-mul (Series R) b) ∙ ap (λ x. conv R x b) (sym (pow-zero (Series R) a)) ∙ e
  regular_pow a pa r (suc n) b p e =
      regular_pow a pa r n b p
      (r (conv R (pow (Series R) a n) b) (poly_mul _ b (poly_pow a pa n) p)
      (sym (CRing.mul_assoc (Series R) a (pow (Series R) a n) b) ∙ ap (λ x. conv R x b) (sym (pow-suc (Series R) a n)) ∙ e))

  -- a b = a c gives b = c
  pub regular_cancel : (a b c : Seq R) → Regular a → Poly b → Poly c → conv R a b ≡ conv R a c → b ≡ c
  regular_cancel a b c r pb pc e =
      Ring.sub-zero (Series R) b c
      (r (sums R b (negs R c)) (poly_add b (negs R c) pb (poly_neg c pc))
      (solve3 (Series R) (λ a b c. a :* (b :- c)) (λ a b c. a :* b :- a :* c) tt a b c
      ∙ ap (λ x. sums R x (negs R (conv R a c))) e ∙ CRing.add-neg (Series R) (conv R a c)))
