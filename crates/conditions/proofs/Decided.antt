-- From the words that code computes to R3: the conditions on the expansion read it up to ℓ, and the words hold it so far.
-- Assumes nothing.
use mathlib.Core.Path.{◌≡◌, refl, sym, ◌∙◌, ap}
use mathlib.Core.Logic.{◌↔◌}
use mathlib.Core.Bool.{Bool, true, false, false≢true}
use mathlib.Core.List.{List}
use Prim.Native.Nat.{ℕ, suc, ◌+◌, ◌*◌, ◌-◌, ◌≤◌, ◌<◌, max}
use native.Mathlib.Decide.{dec_lt}
use native.Mathlib.Omega.{arith}
use lib.Dec.{eqb}
use borrow.Author.Tests.{eqb-true, eq-eqb}
use lib.ListN.{length, get_or}
use Rattle.ring.specs.Ring.{CRing, cast}
use Rattle.series.specs.Recursion.{Before}
use Rattle.zmod.specs.Zmod.{Elt, Zmod, mk, plus, minus, times, cast_mk}
use Rattle.zmod.specs.Residues.{Residue, poly, poly_at, Residues, residue_same, residue_unique}
use Rattle.isogeny.specs.Rules.{Question, ℓ, N, R1, R3}
use Rattle.isogeny.specs.Expansion.{Short, Recurs, expansion}
use Rattle.isogeny.proofs.Terms.{expansion_same, short_same}
use Rattle.isogeny.proofs.Theorems.{fast}
use Rattle.expansion.specs.Begun.{ShortTo, short_to_same, Begun, sums_of, terms_of}
use Rattle.sheet.specs.declared.Values.{Values}
use Rattle.sheet.specs.Values.{half, question}
use Rattle.sheet.specs.Ready.{Ready, half_least, degree_half}

-- ── the conditions, tested

module _ (v : Values) (h : List ℕ) where
  abbrev p : ℕ
  p = v.p

  -- m h_i and a − b are one element exactly when their residues are one number
  same : (m i a b x y : ℕ) → Residue p (times p (mk p m) (mk p (get_or h i 0))) x → Residue p (plus p (mk p a) (minus p (mk p b))) y
      → (x ≡ y) ↔ (times p (cast (Zmod p) m) (poly p h i) ≡ plus p (mk p a) (minus p (mk p b)))
  same m i a b x y hx hy = (λ e. sym is.class ∙ ap (mk p) e ∙ hy.class, λ e. residue_unique (residue_same e is) hy)
    where
      is : Residue p (times p (cast (Zmod p) m) (poly p h i)) x
      is = residue_same (ap (λ z. times p z (mk p (get_or h i 0))) (sym (cast_mk p m)) ∙ ap (times p (cast (Zmod p) m)) (sym (poly_at p h i))) hx

  -- before 3 there are the first two of them
  both : times p (cast (Zmod p) 5) (poly p h 1) ≡ plus p (mk p v.a) (minus p (mk p v.atilde))
      → times p (cast (Zmod p) 7) (poly p h 2) ≡ plus p (mk p v.b) (minus p (mk p v.btilde)) → ShortTo (Zmod p) (question v) 3 (poly p h)
  both first second = record { first = λ l. first; second = λ l. second; recurs = λ k l m. absurd (omega arith) }

  pub begins_known : (known : ℕ) → 3 ≤ known → ShortTo (Zmod p) (question v) known (poly p h)
      → (true ≡ true) ↔ ShortTo (Zmod p) (question v) 3 (poly p h)
  begins_known known l short = (λ e. both (short.first (omega arith)) (short.second (omega arith)), λ e. refl)

  module _ (x₁ y₁ : ℕ) (hx₁ : Residue p (times p (mk p 5) (mk p (get_or h 1 0))) x₁)
      (hy₁ : Residue p (plus p (mk p v.a) (minus p (mk p v.atilde))) y₁) where
    pub first_no : (x₁ ≡ y₁ → ⊥) → (false ≡ true) ↔ ShortTo (Zmod p) (question v) 3 (poly p h)
    first_no other = (λ e. absurd (false≢true e), λ short. absurd (other ((same 5 1 v.a v.atilde x₁ y₁ hx₁ hy₁).1 (short.first (omega arith)))))

    pub second : (x₂ y₂ : ℕ) → Residue p (times p (mk p 7) (mk p (get_or h 2 0))) x₂ → Residue p (plus p (mk p v.b) (minus p (mk p v.btilde))) y₂
        → x₁ ≡ y₁ → (eqb x₂ y₂ ≡ true) ↔ ShortTo (Zmod p) (question v) 3 (poly p h)
    second x₂ y₂ hx₂ hy₂ e₁ = (
      λ e. both ((same 5 1 v.a v.atilde x₁ y₁ hx₁ hy₁).0 e₁) ((same 7 2 v.b v.btilde x₂ y₂ hx₂ hy₂).0 (eqb-true x₂ y₂ e)),
      λ short. eq-eqb x₂ y₂ ((same 7 2 v.b v.btilde x₂ y₂ hx₂ hy₂).1 (short.second (omega arith))),
    )

  module _ (b : Bool) (begins : (b ≡ true) ↔ ShortTo (Zmod p) (question v) 3 (poly p h)) where
    pub begins_no : b ≡ false → (false ≡ true) ↔ Short (Zmod p) (question v) (poly p h)
    begins_no f = (λ e. absurd (false≢true e), λ short. absurd (false≢true (sym f ∙ begins.1 (both short.first short.second))))

    pub all : (known from : ℕ) (r : Bool) → Ready v → length h ≡ v.degree + 1 → from ≡ max 3 known → ShortTo (Zmod p) (question v) known (poly p h) → b ≡ true
        → (r ≡ true) ↔ ((k : ℕ) → from ≤ k → k < length h → Recurs (Zmod p) (question v).A (question v).B (poly p h) k)
        → (r ≡ true) ↔ Short (Zmod p) (question v) (poly p h)
    all known from r ready size e told begun more = (
      λ t. record {
        first = (begins.0 begun).first (omega arith);
        second = (begins.0 begun).second (omega arith);
        recurs = λ k l m. each t k l (omega (arith, degree_half v ready)) (dec_lt k from);
      },
      λ short. more.1 (λ k l m. short.recurs k (omega (arith, e)) (omega (arith, degree_half v ready))),
    )
      where
        each : r ≡ true → (k : ℕ) → 3 ≤ k → k < length h → Dec (k < from) → Recurs (Zmod p) (question v).A (question v).B (poly p h) k
        each t k l m (yes n) = told.recurs k l (omega (arith, e))
        each t k l m (no n) = more.0 t k (omega arith) m

-- ── from the conditions to R3

module _ (v : Values) (ready : Ready v) (g s h : List ℕ) (s_size : v.degree + 2 ≤ length s) (h_size : length h ≡ v.degree + 1)
    (sums : Residues v.p (sums_of v g) s) where
  abbrev R : CRing
  R = Zmod v.p

  abbrev q : Question R
  q = question v

  -- the terms from the words of s are those from g's power sums
  expanded_same : Before (Elt v.p) (suc (ℓ R q)) (expansion R q.A q.B (poly v.p s)) (terms_of v g)
  expanded_same =
      expansion_same R q.A q.B (suc (ℓ R q)) (poly v.p s) (sums_of v g) (λ j m. sums.coefficients j (omega (arith, degree_half v ready)))

  pub terms_known : (s₀ h₀ : List ℕ) (n : ℕ) → n ≤ half v → Begun v g s₀ h₀ n → (k : ℕ) → k < n
      → Residue v.p (expansion R q.A q.B (poly v.p s) k) (get_or h₀ k 0)
  terms_known s₀ h₀ n small begun k l = residue_same (sym (expanded_same k (omega (arith, degree_half v ready)))) (begun.terms k l)

  module _ (expanded : Residues v.p (expansion R q.A q.B (poly v.p s)) h) where
    whole : Before (Elt v.p) (suc (ℓ R q)) (poly v.p h) (terms_of v g)
    whole i l = expanded.coefficients i (omega (arith, degree_half v ready)) ∙ expanded_same i l

    pub short_known : (s₀ h₀ : List ℕ) (n : ℕ) → n ≤ half v → Begun v g s₀ h₀ n → ShortTo R q n (poly v.p h)
    short_known s₀ h₀ n small begun =
        short_to_same R q n (terms_of v g) (poly v.p h) (λ i l. sym (whole i (omega (arith, degree_half v ready)))) begun.short

    pub decided : 3 * v.degree - 3 < v.p → R1 R q (poly v.p g) → (r : Bool) → (r ≡ true) ↔ Short R q (poly v.p h)
        → (r ≡ true) ↔ R3 R q (poly v.p g) (N R q (poly v.p g))
    decided large r1 r test = (
      λ t. by_theorem.1 (short_same R q (poly v.p h) _ whole (half_least v ready) (test.0 t)),
      λ r3. test.1 (short_same R q _ (poly v.p h) (λ i l. sym (whole i l)) (half_least v ready) (by_theorem.0 r3)),
    )
      where
        by_theorem : R3 R q (poly v.p g) (N R q (poly v.p g)) ↔ Short R q (terms_of v g)
        by_theorem = fast ready.prime.prime q (half_least v ready) (poly v.p g) r1 (omega (arith, degree_half v ready))
