-- What is known of a g before R3 is asked: the first power sums, the first terms of the expansion, and that these meet the conditions that stand for R3. Of a
-- g that solving has computed half of all that is known by construction; of any other, nothing.
-- Assumes nothing.
use Rattle.std.specs.Prelude.{◌≡◌, List, ℕ, ◌+◌, ◌*◌, ◌-◌, ◌≤◌, ◌<◌, get_or}
use Rattle.std.proofs.Common.{sym, ◌∙◌, ap, arith}
use Rattle.ring.specs.Ring.{CRing, cast}
use Rattle.series.specs.Series.{Seq}
use Rattle.series.specs.Recursion.{Before}
use Rattle.zmod.specs.Zmod.{Zmod}
use Rattle.zmod.specs.Residues.{Residue, poly}
use Rattle.isogeny.specs.Rules.{Question}
use Rattle.isogeny.specs.Expansion.{expansion, power_sums_of, Recurs}
use Rattle.isogeny.proofs.Terms.{recurrence_same}
use Rattle.sheet.specs.declared.Values.{Values}
use Rattle.sheet.specs.Values.{half, question}

module _ (R : CRing) (q : Question R) where
  open q use {A, B, Ã, B̃}
  open R use {Car, add as ◌⊕◌, mul as ◌⊗◌, neg}

  infixl 65 ◌⊕◌
  infixl 70 ◌⊗◌
  -- the conditions on the terms before n
  pub record ShortTo (n : ℕ) (h : Seq R) : Type 0 where
    pub first : 1 < n → cast R 5 ⊗ h 1 ≡ A ⊕ neg Ã
    pub second : 2 < n → cast R 7 ⊗ h 2 ≡ B ⊕ neg B̃
    pub recurs : (k : ℕ) → 3 ≤ k → k < n → Recurs R A B h k

  pub short_to_same : (n : ℕ) (a b : Seq R) → Before Car n a b → ShortTo n a → ShortTo n b
  short_to_same n a b e x = record {
    first = λ l. ap (λ y. cast R 5 ⊗ y) (sym (e 1 l)) ∙ x.first l;
    second = λ l. ap (λ y. cast R 7 ⊗ y) (sym (e 2 l)) ∙ x.second l;
    recurs = λ k l m.
        ap (λ y. cast R (k - 2) ⊗ cast R (2 * k + 3) ⊗ y) (sym (e k m)) ∙ x.recurs k l m
        ∙ recurrence_same R A B k l a b (λ i j. e i (omega arith));
  }

module _ (v : Values) (g : List ℕ) where
  abbrev pub sums_of : Seq (Zmod v.p)
  sums_of = power_sums_of (Zmod v.p) (half v) (poly v.p g)

  abbrev pub terms_of : Seq (Zmod v.p)
  terms_of = expansion (Zmod v.p) (question v).A (question v).B sums_of

  -- s₀ to s_n, if any
  abbrev pub KnownSums : List ℕ → ℕ → Type 0
  KnownSums s n = 1 ≤ n → (k : ℕ) → k ≤ n → Residue v.p (sums_of k) (get_or s k 0)

  pub record Begun (s h : List ℕ) (n : ℕ) : Type 0 where
    pub sums : KnownSums s n
    pub terms : (k : ℕ) → k < n → Residue v.p (terms_of k) (get_or h k 0)
    pub short : ShortTo (Zmod v.p) (question v) n terms_of

  pub begun_none : (s h : List ℕ) → Begun s h 0
  begun_none s h = record {
    sums = λ l. absurd (omega arith);
    terms = λ k l. absurd (omega arith);
    short = record { first = λ l. absurd (omega arith); second = λ l. absurd (omega arith); recurs = λ k l m. absurd (omega arith) };
  }
