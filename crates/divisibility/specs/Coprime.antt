-- Bezout's combinations u a + v b of polynomials, and coprime polynomials: those with u a + v b = 1.
-- Assumes nothing.
use Rattle.std.specs.Prelude.{◌≡◌, refl, ◌≢◌, ℕ, zero, suc}
use Rattle.std.proofs.Common.{sym, ◌∙◌, ap, ap₂, subst}
use Rattle.ring.specs.Ring
use Rattle.ring.specs.Ring.{CRing, pow, pow-zero, pow-suc}
use Rattle.ring.specs.Field.{Inverse}
use Rattle.ring.specs.Identity.{solve2, solve5, solve7}
use Rattle.ring.specs.Identity.Ex.{:0, :1, ◌:+◌, ◌:-◌, ◌:*◌}
use Rattle.series.specs.Series.{Series, Seq, const, zeros}
use Rattle.series.specs.Degree.{Poly, poly_zeros, poly_const, poly_add, poly_neg, poly_mul}
use Rattle.series.specs.Indeterminate.{const_mul}
use Rattle.series.specs.Value.{at, at_add, at_mul, at_const}
use Rattle.divisibility.specs.Divides.{Divides, divides_sum}
use Rattle.divisibility.specs.Congruence.{Congruent}

module _ (R : CRing) where
  open R use {Car, 𝟘, 𝟙}
  open Series R use {𝟙 as 1ₛ, add as ◌+ₛ◌, mul as ◌*ₛ◌, neg as -ₛ◌}

  infixl 65 ◌+ₛ◌
  infixl 70 ◌*ₛ◌
  infix 75 -ₛ◌
  -- c = u a + v b
  pub record Bezout (a b c : Seq R) : Type 0 where
    pub u : Seq R
    pub v : Seq R
    pub poly_u : Poly R u
    pub poly_v : Poly R v
    pub is : u *ₛ a +ₛ v *ₛ b ≡ c

  abbrev pub Coprime : Seq R → Seq R → Type 0
  Coprime a b = Bezout a b 1ₛ

  pub bezout_sym : (a b c : Seq R) → Bezout a b c → Bezout b a c
  bezout_sym a b c h = record { u = h.v; v = h.u; poly_u = h.poly_v; poly_v = h.poly_u; is = CRing.add_comm (Series R) _ _ ∙ h.is }

  -- every common divisor divides it
  pub bezout_divides : (a b c : Seq R) → Bezout a b c → (e : Seq R) → Divides R e a → Divides R e b → Divides R e c
  bezout_divides a b c h e l r = subst (Divides R e) h.is (divides_sum R e a b h.u h.v h.poly_u h.poly_v l r)

  -- where b = r modulo a, a combination of a and r is one of a and b
  pub bezout_modulo : (a b r c : Seq R) → Congruent R a b r → Bezout a r c → Bezout a b c
  bezout_modulo a b r c h k = record {
    u = k.u +ₛ -ₛ (k.v *ₛ h.cofactor);
    v = k.v;
    poly_u = poly_add R k.u _ k.poly_u (poly_neg R _ (poly_mul R k.v h.cofactor k.poly_v h.poly));
    poly_v = k.poly_v;
    is =
        solve5 (Series R) (λ a b m u v. (u :- v :* m) :* a :+ v :* b) (λ a b m u v. u :* a :+ v :* (b :- a :* m)) tt a b h.cofactor k.u k.v
        ∙ ap (λ x. k.u *ₛ a +ₛ k.v *ₛ (b +ₛ -ₛ x)) h.is
        ∙ ap (λ x. k.u *ₛ a +ₛ k.v *ₛ x) (solve2 (Series R) (λ b r. b :- (b :- r)) (λ b r. r) tt b r)
        ∙ k.is;
  }

  -- ── products

  -- a coprime to b and to c is coprime to b c
  pub coprime_mul : (a b c : Seq R) → Poly R b → Coprime a b → Coprime a c → Coprime a (b *ₛ c)
  coprime_mul a b c pb h k = record {
    u = h.u +ₛ h.v *ₛ b *ₛ k.u;
    v = h.v *ₛ k.v;
    poly_u = poly_add R h.u _ h.poly_u (poly_mul R _ k.u (poly_mul R h.v b h.poly_v pb) k.poly_u);
    poly_v = poly_mul R h.v k.v h.poly_v k.poly_v;
    is =
        solve7 (Series R) (λ a b c s t u v. (s :+ t :* b :* u) :* a :+ t :* v :* (b :* c)) (λ a b c s t u v. s :* a :+ t :* (b :* (u :* a :+ v :* c))) tt
        a b c h.u h.v k.u k.v
        ∙ ap (λ x. h.u *ₛ a +ₛ h.v *ₛ (b *ₛ x)) k.is
        ∙ ap (λ x. h.u *ₛ a +ₛ h.v *ₛ x) (CRing.mul-one (Series R) b)
        ∙ h.is;
  }

  -- where a is coprime to b and divides b c, it divides c
  pub coprime_divides : (a b c : Seq R) → Poly R c → Coprime a b → Divides R a (b *ₛ c) → Divides R a c
  coprime_divides a b c pc h k = record {
    cofactor = h.u *ₛ c +ₛ h.v *ₛ k.cofactor;
    poly = poly_add R _ _ (poly_mul R h.u c h.poly_u pc) (poly_mul R h.v k.cofactor h.poly_v k.poly);
    is =
        solve5 (Series R) (λ a c u v y. a :* (u :* c :+ v :* y)) (λ a c u v y. u :* a :* c :+ v :* (a :* y)) tt a c h.u h.v k.cofactor
        ∙ ap (λ x. h.u *ₛ a *ₛ c +ₛ h.v *ₛ x) k.is
        ∙ solve5 (Series R) (λ a b c u v. u :* a :* c :+ v :* (b :* c)) (λ a b c u v. (u :* a :+ v :* b) :* c) tt a b c h.u h.v
        ∙ ap (λ x. x *ₛ c) h.is ∙ Ring.one-mul (Series R) c;
  }

  pub const_unit : (c : Car) (u : Inverse R c) → const R c *ₛ const R u.0 ≡ 1ₛ
  const_unit c u = const_mul R c u.0 ∙ ap (const R) u.1

  -- polynomials that combine to a unit are coprime
  pub bezout_unit : (a b : Seq R) (c : Car) → Inverse R c → Bezout a b (const R c) → Coprime a b
  bezout_unit a b c i h = record {
    u = κ *ₛ h.u;
    v = κ *ₛ h.v;
    poly_u = poly_mul R κ h.u (poly_const R i.0) h.poly_u;
    poly_v = poly_mul R κ h.v (poly_const R i.0) h.poly_v;
    is =
        solve5 (Series R) (λ a b k u v. k :* u :* a :+ k :* v :* b) (λ a b k u v. (u :* a :+ v :* b) :* k) tt a b κ h.u h.v
        ∙ ap (λ x. x *ₛ κ) h.is ∙ const_unit c i;
  }
    where
      κ : Seq R
      κ = const R i.0

  -- a constant that is a unit is coprime to every polynomial
  pub coprime_const : (a : Seq R) (c : Car) → Inverse R c → Coprime a (const R c)
  coprime_const a c i =
      bezout_unit a (const R c) c i
      (record {
        u = zeros R;
        v = 1ₛ;
        poly_u = poly_zeros R;
        poly_v = poly_const R 𝟙;
        is = solve2 (Series R) (λ a y. :0 :* a :+ :1 :* y) (λ a y. y) tt a (const R c);
      })

  pub coprime_pow : (a b : Seq R) → Poly R b → Coprime a b → (n : ℕ) → Coprime a (pow (Series R) b n)
  coprime_pow a b pb h zero = subst (Coprime a) (sym (pow-zero (Series R) b)) (coprime_const a 𝟙 (𝟙, R.mul-one 𝟙))
  coprime_pow a b pb h (suc n) = subst (Coprime a) (sym (pow-suc (Series R) b n)) (coprime_mul a b _ pb h (coprime_pow a b pb h n))

  -- where a is zero, b is not
  pub coprime_at : 𝟙 ≢ 𝟘 → (a b : Seq R) (pa : Poly R a) (pb : Poly R b) → Coprime a b → (x : Car) → at R a pa x ≡ 𝟘 → at R b pb x ≢ 𝟘
  coprime_at apart a b pa pb h x a_zero b_zero =
      apart (sym (at_const R 𝟙 (poly_const R 𝟙) x) ∙ at_add R (h.u *ₛ a) (h.v *ₛ b) 1ₛ pua pvb (poly_const R 𝟙) x h.is
      ∙ ap₂ R.add
      (at_mul R h.u a _ h.poly_u pa pua x refl ∙ ap (R.mul _) a_zero ∙ Ring.mul-zero R _)
      (at_mul R h.v b _ h.poly_v pb pvb x refl ∙ ap (R.mul _) b_zero ∙ Ring.mul-zero R _)
      ∙ R.add-zero 𝟘)
    where
      pua : Poly R (h.u *ₛ a)
      pua = poly_mul R h.u a h.poly_u pa

      pvb : Poly R (h.v *ₛ b)
      pvb = poly_mul R h.v b h.poly_v pb
