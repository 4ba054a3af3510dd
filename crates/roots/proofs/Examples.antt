-- The theorems apply, over every prime p: 1 has no root, x has one, xᵖ − x has p.
-- Assumes nothing.
use Rattle.std.specs.Prelude.{◌≡◌, refl, ℕ, suc, ◌-◌, ◌<◌}
use Rattle.std.proofs.Common.{sym, ◌∙◌, ap, arith}
use Rattle.ring.specs.Ring
use Rattle.ring.specs.Ring.{CRing, pow, pow-suc}
use Rattle.ring.specs.Identity.{solve1, solve2}
use Rattle.ring.specs.Identity.Ex.{:0, :1, ◌:+◌, ◌:-◌, ◌:*◌, :-◌}
use Rattle.series.specs.Series.{Series, Seq, zeros, const, negs}
use Rattle.series.specs.Degree.{Monic, poly_zeros, poly_const, const_below, poly_neg, poly_pow, monic_poly}
use Rattle.series.specs.Indeterminate.{ind}
use Rattle.series.specs.Binomial.{ind_monic}
use Rattle.zmod.specs.Zmod.{Zmod}
use Rattle.zmod.specs.Prime.{Prime}
use Rattle.divisibility.specs.Divides.{Divides, divides_refl}
use Rattle.divisibility.specs.Gcd.{Gcd}
use Rattle.roots.specs.Rational.{rational_roots}
use Rattle.roots.specs.Power.{PowerModulo}
use Rattle.roots.proofs.Theorems.{all_monic, roots_gcd, roots_modulo}

module _ {p : ℕ} (P : Prime p) where
  abbrev R : CRing
  R = Zmod p

  abbrev K : CRing
  K = Series R

  abbrev x : Seq R
  x = ind R

  abbrev 1ₛ : Seq R
  1ₛ = const R R.𝟙

  -- a monic polynomial that divides another one is the greatest common divisor of both
  gcd_divisor : (n : ℕ) (a b : Seq R) → Monic R n a → Divides R a b → Gcd R a b n a
  gcd_divisor n a b monic h = record {
    monic = monic;
    left = divides_refl R a;
    right = h;
    bezout = record {
      u = 1ₛ;
      v = zeros R;
      poly_u = poly_const R R.𝟙;
      poly_v = poly_zeros R;
      is = solve2 K (λ a b. :1 :* a :+ :0 :* b) (λ a b. a) tt a b;
    };
  }

  -- xᵖ is 0 modulo x
  power : PowerModulo R x x p (zeros R)
  power = record {
    cofactor = negs R (pow K x (p - 1));
    poly = poly_neg R _ (poly_pow R x (2, (ind_monic R).below) (p - 1));
    is =
        solve2 K (λ x y. x :* (:- y)) (λ x y. :0 :- x :* y) tt x (pow K x (p - 1))
        ∙ ap (λ y. K.add (zeros R) (negs R y)) (sym (pow-suc K x (p - 1)) ∙ ap (pow K x) (let h : 1 < p = P.above_one in omega arith));
  }

  pub one_root : rational_roots p 2 x ≡ 1
  one_root =
      roots_modulo P 2 x (ind_monic R).below (zeros R) power 1 x
      (gcd_divisor 1 x (K.add (zeros R) (negs R x)) (ind_monic R)
      (record { cofactor = negs R 1ₛ; poly = poly_neg R _ (poly_const R R.𝟙); is = solve1 K (λ x. x :* (:- :1)) (λ x. :0 :- x) tt x }))

  abbrev w : Seq R
  w = K.add (pow K x p) (negs R x)

  pub no_root : rational_roots p 1 1ₛ ≡ 0
  no_root =
      roots_gcd P 1 1ₛ (const_below R R.𝟙) 0 1ₛ
      (gcd_divisor 0 1ₛ w (record { below = const_below R R.𝟙; one = refl })
      (record { cofactor = w; poly = monic_poly R p w (all_monic P); is = Ring.one-mul K w }))

  pub all_roots : rational_roots p (suc p) w ≡ p
  all_roots = roots_gcd P (suc p) w (all_monic P).below p w (gcd_divisor p w w (all_monic P) (divides_refl R w))
