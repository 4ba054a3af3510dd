-- The composite of two certificates that meet, over the first one's p: its values pass 3 to 5, its question is the composite of the two questions, and its
-- g meets the rules. Three have one composite, either way.
-- Assumes nothing.
use Rattle.std.specs.Prelude.{◌≡◌, refl, List, ℕ, ◌+◌, ◌*◌, ◌%◌, ◌≤◌, length}
use Rattle.std.proofs.Common.{sym, ◌∙◌, ap, ap₂, subst, arith}
use Rattle.std.proofs.Math.Nat as N
use Rattle.ring.specs.Ring.{CRing, cast}
use Rattle.series.specs.Series.{Seq}
use Rattle.zmod.specs.Zmod.{Zmod, mk, plus, times, mk_add, mk_mul, mk_mod, cast_mk}
use Rattle.zmod.specs.Prime.{prime_pos}
use Rattle.zmod.specs.Remainder.{mul_mod_right}
use Rattle.zmod.specs.Residues.{poly, Residues, residues_poly}
use Rattle.isogeny.specs.Rules.{Question, ℓ, Meets}
use Rattle.composition.specs.Composite.{Composable, composite, composite_g, composite_degree}
use Rattle.composition.proofs.Theorems as T
use Rattle.sheet.specs.declared.Values.{Values}
use Rattle.sheet.specs.Values.{half, question}
use Rattle.sheet.specs.Fields.{same}
use Rattle.sheet.specs.Ready.{Ready, half_least, degree_half}
use Rattle.promises.specs.Asked.{ComposableValues, ProductAllowed}
use Rattle.promises.specs.Answer.{composed}

-- values with another p
abbrev pub over : ℕ → Values → Values
over p w = record {
  p = p;
  a = w.a;
  b = w.b;
  atilde = w.atilde;
  btilde = w.btilde;
  degree = w.degree;
  sigma = w.sigma;
}

-- with their own p they are what they were
pub over_same : {p : ℕ} (w : Values) → p ≡ w.p → over p w ≡ w
over_same w e i = over (e i) w

-- ── three, either way

-- one remainder at the end is enough
remainder_inside : (a b c p : ℕ) → (a + b * (c % p)) % p ≡ (a + b * c) % p
remainder_inside a b c p =
    sym (N.add-mod-mod a (b * (c % p)) p) ∙ ap (λ n. (a + n) % p) (mul_mod_right b c p) ∙ N.add-mod-mod a (b * c) p

-- Of three values of which the first two have one p, the composite is the same whichever two are composed first.
pub composed_associative : (u v w : Values) → u.p ≡ v.p → composed (composed u v) w ≡ composed u (composed v w)
composed_associative u v w e = same refl refl refl refl refl (N.mul_assoc u.degree v.degree w.degree) sigmas
  where
    sigmas : (w.sigma + w.degree * ((v.sigma + v.degree * u.sigma) % u.p)) % u.p
        ≡ ((w.sigma + w.degree * v.sigma) % v.p + v.degree * w.degree * u.sigma) % u.p
    sigmas =
        remainder_inside w.sigma w.degree (v.sigma + v.degree * u.sigma) u.p
        ∙ ap (◌% u.p)
        (ap (w.sigma +◌)
        (N.mul-add w.degree v.sigma (v.degree * u.sigma)
        ∙ ap (w.degree * v.sigma +◌) (sym (N.mul_assoc w.degree v.degree u.sigma) ∙ ap (◌* u.sigma) (N.mul_comm w.degree v.degree)))
        ∙ sym (N.add_assoc w.sigma (w.degree * v.sigma) (v.degree * w.degree * u.sigma)))
        ∙ sym (N.mod-add-mod (w.sigma + w.degree * v.sigma) u.p (v.degree * w.degree * u.sigma))
        ∙ ap (λ m. ((w.sigma + w.degree * v.sigma) % m + v.degree * w.degree * u.sigma) % u.p) e

-- ── two that meet

module _ (v w : Values) (ready : Ready v) (ready' : Ready w) (meet : ComposableValues v w) (allowed : ProductAllowed v w) where
  abbrev p : ℕ
  p = v.p

  abbrev R : CRing
  R = Zmod p

  -- the question of the second, over the first one's p
  abbrev pub second : Question (Zmod v.p)
  second = question (over v.p w)

  degrees : v.degree * w.degree ≡ ℓ R (composite R (question v) second)
  degrees =
      N.mul_comm v.degree w.degree ∙ ap₂ ◌*◌ (degree_half w ready') (degree_half v ready) ∙ composite_degree R (question v) second

  -- (ℓ₁ℓ₂ − 1)/2 = d₁ + ℓ₁d₂
  pub composed_half : half (composed v w) ≡ half v + half w * (2 * half v + 1)
  composed_half = omega (arith, degrees)

  least : 3 ≤ v.degree * w.degree
  least = omega (arith, degrees, half_least v ready)

  pub composed_ready : Ready (composed v w)
  composed_ready = record {
    prime = ready.prime;
    degree = record { odd = omega (arith, degrees); least = least; most = allowed.most; small = allowed.small };
    below = record {
      a = ready.below.a;
      b = ready.below.b;
      atilde = omega (arith, ready'.below.atilde, meet.p);
      btilde = omega (arith, ready'.below.btilde, meet.p);
      sigma = N.mod-lt (w.sigma + w.degree * v.sigma) (prime_pos ready.prime.prime);
    };
  }

  sums : mk p ((w.sigma + w.degree * v.sigma) % p) ≡ plus p (mk p w.sigma) (times p (cast R (ℓ R second)) (mk p v.sigma))
  sums =
      mk_mod (prime_pos ready.prime.prime) (w.sigma + w.degree * v.sigma) ∙ mk_add p w.sigma (w.degree * v.sigma)
      ∙ ap (plus p (mk p w.sigma))
      (mk_mul p w.degree v.sigma ∙ ap (λ n. times p n (mk p v.sigma)) (ap (mk p) (degree_half w ready') ∙ sym (cast_mk p (ℓ R second))))

  pub composed_question : question (composed v w) ≡ composite (Zmod v.p) (question v) second
  composed_question = λ i. record {
    A = mk p v.a;
    B = mk p v.b;
    Ã = mk p w.atilde;
    B̃ = mk p w.btilde;
    d = composed_half i;
    σ = sums i;
  }

  pub composable : Composable (Zmod v.p) (question v) second
  composable = record { A = ap (mk p) meet.a; B = ap (mk p) meet.b }

  module _ (g₁ g₂ : List ℕ) (meets : Meets (Zmod v.p) (question v) (poly v.p g₁)) (meets' : Meets (Zmod w.p) (question w) (poly w.p g₂)) where
    -- over the first one's p
    pub meets_over : Meets (Zmod v.p) second (poly v.p g₂)
    meets_over = subst (λ w. Meets (Zmod w.p) (question w) (poly w.p g₂)) (sym (over_same w meet.p)) meets'

    abbrev g : Seq R
    g = composite_g R (question v) (half w) (poly p g₁) (poly p g₂)

    pub composed_meets : Meets (Zmod v.p) (question (composed v w)) (composite_g (Zmod v.p) (question v) (half w) (poly v.p g₁) (poly v.p g₂))
    composed_meets =
        subst (λ q. Meets R q g) (sym composed_question)
        (T.composite_meets ready.prime.prime (question v) second (half_least v ready) (half_least w ready') composable (poly p g₁) (poly p g₂) meets
        meets_over)

    -- d + 1 words hold it whole
    pub whole_composite : (xs : List ℕ) → length xs ≡ half (composed v w) + 1
        → Residues v.p (composite_g (Zmod v.p) (question v) (half w) (poly v.p g₁) (poly v.p g₂)) xs
        → poly v.p xs ≡ composite_g (Zmod v.p) (question v) (half w) (poly v.p g₁) (poly v.p g₂)
    whole_composite xs count h = residues_poly h (λ i l. composed_meets.r1.degree i (omega arith))
