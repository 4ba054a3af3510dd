-- The theorems, over ℤ/p for a prime p: one page to cite. The words used are defined in `Rational`, in `Power` and in `divisibility`'s `Gcd` and
-- `Congruence`: `Gcd R g r n h` says that h is monic of degree n, divides g and r, and is u g + v r for some polynomials u and v.
-- Assumes nothing.
use Rattle.std.specs.Prelude.{◌≡◌, ◌≢◌, [], ◌∷◌, ℕ, suc, ◌≤◌, ◌<◌}
use Rattle.std.proofs.Common.{◌∙◌, ap₂, arith}
use Rattle.std.proofs.Math.Path.{ap}
use Rattle.std.proofs.Math.Nat as N
use Rattle.ring.specs.Ring.{CRing, pow}
use Rattle.ring.specs.Identity.{solve1}
use Rattle.ring.specs.Identity.Ex.{var, :0, :1, ◌:+◌, ◌:-◌, ◌:*◌, :-◌, ◌:^◌}
use Rattle.series.specs.Series.{Series, Seq}
use Rattle.series.specs.Degree.{Below, Poly, Monic, leading, monic_poly, poly_add, poly_neg}
use Rattle.series.specs.Indeterminate.{ind}
use Rattle.series.specs.Binomial.{ind_monic, ind_value, monic_power}
use Rattle.series.specs.Value.{value, at, at_eval}
use Rattle.zmod.specs.Zmod.{Zmod, val, mk, minus, mk-val, val-lt, mk_apart, same?}
use Rattle.zmod.specs.Prime.{Prime, prime_pos, Zmod_field}
use Rattle.zmod.specs.Fermat.{fermat}
use Rattle.divisibility.specs.Congruence.{congruent_refl, congruent_sym, congruent_add}
use Rattle.divisibility.specs.Gcd.{Gcd, gcd_modulo}
use Rattle.divisibility.proofs.Gcd.{euclid}
use Rattle.roots.specs.Count.{count_some}
use Rattle.roots.specs.Rational.{rational_roots}
use Rattle.roots.specs.Power.{PowerModulo}
use Rattle.roots.specs.Roots as Roots

module _ {p : ℕ} (P : Prime p) where
  abbrev R : CRing
  R = Zmod p

  open Series R use {add as ◌⊕◌, neg}

  infixl 65 ◌⊕◌ ◌⊖◌
  infixr 75 ◌^◌
  abbrev ◌⊖◌ : Seq R → Seq R → Seq R
  a ⊖ b = a ⊕ neg b

  abbrev ◌^◌ : Seq R → ℕ → Seq R
  a ^ n = pow (Series R) a n

  abbrev x : Seq R
  x = ind R

  -- ── xᵖ − x has every element as a root

  pub all_monic : Monic R p (x ^ p ⊖ x)
  all_monic = record {
    below = λ i l. ap₂ (λ y z. R.add y (R.neg z)) (power.below i l) ((ind_monic R).below i (omega arith)) ∙ R.add-neg R.𝟘;
    one = ap₂ (λ y z. R.add y (R.neg z)) power.one ((ind_monic R).below p P.above_one) ∙ solve1 R (λ y. :1 :- :0) (λ y. :1) tt R.𝟘;
  }
    where
      power : Monic R p (x ^ p)
      power = monic_power R x (ind_monic R) p

  zero_at : (i : ℕ) → i < p → at R (x ^ p ⊖ x) (monic_poly R p (x ^ p ⊖ x) all_monic) (mk p i) ≡ R.𝟘
  zero_at i l =
      at_eval R (x ∷ []) ((2, (ind_monic R).below), tt) (var 0 :^ p :- var 0) (monic_poly R p (x ^ p ⊖ x) all_monic) (mk p i)
      ∙ ap (λ y. R.add (pow R y p) (R.neg y)) (ind_value R (mk p i)) ∙ ap (λ y. R.add y (R.neg (mk p i))) (fermat P (mk p i)) ∙ R.add-neg _

  distinct : (i j : ℕ) → i < j → j < p → mk p i ≢ mk p j
  distinct i j h l e = let s : i ≡ j = mk_apart (prime_pos P) i j (omega arith) l e in absurd (omega arith)

  -- ── the theorems, for any polynomial g of at most m coefficients

  module _ (m : ℕ) (g : Seq R) (below : Below R m g) where
    -- The number of u from 0 to p − 1 with g(u) = 0 is the degree of the greatest common divisor of g and xᵖ − x.
    pub roots_gcd : (n : ℕ) (h : Seq R) → Gcd R g (x ^ p ⊖ x) n h → rational_roots p m g ≡ n
    unfolding rational_roots
    roots_gcd =
        Roots.roots_gcd R (Zmod_field P) (λ y. same? p y (mk p 0)) (mk p) p distinct (x ^ p ⊖ x) all_monic zero_at g (m, below)

    -- So it is that of g and w − x, where w is xᵖ modulo g: what is computed is w, and h with the degree n.
    pub roots_modulo : (w : Seq R) → PowerModulo R g x p w → (n : ℕ) (h : Seq R) → Gcd R g (w ⊖ x) n h → rational_roots p m g ≡ n
    unfolding rational_roots
    roots_modulo w is n h G =
        Roots.roots_gcd R (Zmod_field P) (λ y. same? p y (mk p 0)) (mk p) p distinct (x ^ p ⊖ x) all_monic zero_at g (m, below) n h
        (gcd_modulo R g (x ^ p ⊖ x) (w ⊖ x) (congruent_add R g (x ^ p) w (neg x) (neg x) (congruent_sym R g w (x ^ p) is) (congruent_refl R g (neg x))) n h G)

  -- For a monic g there is such an h.
  pub gcd_exists : (d : ℕ) (g : Seq R) → Monic R d g → (w : Seq R) → Poly R w → (n : ℕ) × (h : Seq R) × Gcd R g (w ⊖ x) n h
  gcd_exists d g monic w poly =
      let r : Poly R (w ⊖ x) = poly_add R w (neg x) poly (poly_neg R x (2, (ind_monic R).below)) in
      euclid R (Zmod_field P) r.0 d g (w ⊖ x) (leading R d g monic) r.1

  -- A monic g of degree d has at most d roots.
  pub roots_most : (d : ℕ) (g : Seq R) → Monic R d g → rational_roots p (suc d) g ≤ d
  unfolding rational_roots
  roots_most d g monic =
      Roots.roots_most R (Zmod_field P) (λ y. same? p y (mk p 0)) (mk p) p distinct p d g (suc d, monic.below) (N.le_refl p) (leading R d g monic)

  -- One of degree 1 has one root.
  pub roots_linear : (g : Seq R) → Monic R 1 g → rational_roots p 2 g ≡ 1
  unfolding rational_roots value
  roots_linear g monic =
      let some : 0 < rational_roots p 2 g = count_some (λ u. same? p (value R 2 g (mk p u)) (mk p 0)) p (val p (minus p (g 0)))
      (val-lt (prime_pos P) (minus p (g 0))) root in
      let most : rational_roots p 2 g ≤ 1 =
      Roots.roots_most R (Zmod_field P) (λ y. same? p y (mk p 0)) (mk p) p distinct p 1 g (2, monic.below) (N.le_refl p) (leading R 1 g monic) in
      omega (arith, some, most)
    where
      root : value R 2 g (mk p (val p (minus p (g 0)))) ≡ mk p 0
      root =
          ap (λ u. R.add (g 0) (R.mul u (R.add (g 1) (R.mul u R.𝟘)))) (mk-val p (minus p (g 0)))
          ∙ ap (λ y. R.add (g 0) (R.mul (minus p (g 0)) (R.add y (R.mul (minus p (g 0)) R.𝟘)))) monic.one
          ∙ solve1 R (λ y. y :+ :- y :* (:1 :+ :- y :* :0)) (λ y. :0) tt (g 0)
