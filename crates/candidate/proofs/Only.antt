-- From the equations that the words solve to the rules: h, s and c are what solving computes, g, which is c backwards, is the only polynomial that can meet
-- the rules, and h and s are the beginning of its expansion and its power sums.
-- Assumes nothing.
use mathlib.Core.Path.{◌≡◌, refl, sym, ◌∙◌, ap, subst}
use mathlib.Core.List.{List}
use Prim.Native.Nat.{ℕ, zero, suc, ◌+◌, ◌*◌, ◌-◌, ◌≤◌, ◌<◌}
use native.Mathlib.Omega.{arith}
use lib.ListN.{length, get_or}
use Rattle.slices.specs.Filling.{Filled}
use Rattle.series.specs.Series.{Seq}
use Rattle.ring.specs.Ring.{cast}
use Rattle.series.specs.Reversal.{rev, rev_sub}
use Rattle.zmod.specs.Zmod.{Zmod, mk, times, minus}
use Rattle.zmod.specs.Prime.{Prime, prime_pos}
use Rattle.zmod.specs.Residues.{Residue, poly, poly_at, poly_past}
use Rattle.isogeny.specs.Rules.{Question, ℓ, R1, Meets}
use Rattle.isogeny.specs.Expansion.{from_sums, expansion, power_sums_of}
use Rattle.isogeny.specs.Solution.{Computed, Coefficients}
use Rattle.isogeny.proofs.Theorems.{solution_R1, is_solution}
use Rattle.isogeny.proofs.Sums.{sums_unique}
use Rattle.sheet.specs.declared.Values.{Values}
use Rattle.sheet.specs.Values.{half, question}
use Rattle.candidate.specs.Candidate.{Candidate}
use Rattle.sheet.specs.Ready.{Ready, half_least, degree_half}
use Rattle.recurrence.specs.Equations.{HAt}
use Rattle.recurrence.specs.Expands.{zeroth, first, second, recurs}
use Rattle.candidate.specs.Equations.{SAt, CAt}
use Rattle.expansion.specs.Begun.{ShortTo, short_to_same, sums_of, terms_of}
use Rattle.expansion.specs.Equations.{Solved}
use Rattle.expansion.specs.Stores.{solved_all}
use Rattle.expansion.specs.Parts.{reversed_reduced}
use Rattle.candidate.proofs.Causal.{newton_same}

module _ {p : ℕ} (q : Question (Zmod p)) (d≥1 : 1 ≤ q.d) (h s c g : List ℕ)
    (hs : Solved p (HAt (Zmod p) q) h q.d) (ss : Solved p (SAt (Zmod p) q (poly p h)) s (q.d + 1)) (cs : Solved p (CAt (Zmod p) (poly p s)) c (q.d + 1))
    (cl : length c ≡ q.d + 1) (gl : length g ≡ q.d + 1) (back : Filled (λ i w. w ≡ get_or c (length c - 1 - i) 0) g (length c)) where
  open q use {A, B, d}

  computed : Computed (Zmod p) q (poly p h) (poly p s) (poly p c)
  computed = record {
    h_zero = zeroth hs (omega arith);
    h_first = first hs;
    h_second = second hs;
    h_more = recurs hs;
    s_zero = (ss.equations 0 (omega arith)).zero refl;
    s_one = (ss.equations 1 (omega arith)).one refl;
    s_more = λ i l m.
        let e : i + 1 - 1 ≡ i = omega arith in
        subst (λ j. from_sums (Zmod p) A B (poly p s) j ≡ poly p h j) e ((ss.equations (i + 1) (omega arith)).more (omega arith));
    c_zero = (cs.equations 0 (omega arith)).zero refl;
    c_more = λ k l m. (cs.equations k (omega arith)).more l;
  }

  coefficients : Coefficients (Zmod p) q (poly p g) (poly p c)
  coefficients = record {
    degree = λ i l. poly_past p g i (omega arith);
    descending = λ k l.
        poly_at p g (d - k) ∙ ap (mk p) (back (d - k) (omega arith)) ∙ sym (poly_at p c (length c - 1 - (d - k))) ∙ ap (poly p c) (omega arith);
  }

  -- c is g reversed
  reversed : (k : ℕ) → k ≤ d → rev (Zmod p) d (poly p g) k ≡ poly p c k
  reversed k l = rev_sub (Zmod p) d k (poly p g) l ∙ coefficients.descending k l

  -- the words of s are g's power sums
  summed : (k : ℕ) → k ≤ d → poly p s k ≡ power_sums_of (Zmod p) d (poly p g) k
  summed n small =
      sums_unique (Zmod p) d (poly p g) (ap (poly p g) (omega arith) ∙ coefficients.descending 0 (omega arith) ∙ computed.c_zero) d (poly p s) (record {
        first = computed.s_zero;
        newton = λ k l m.
            ap (times p (cast (Zmod p) (2 * k))) (reversed k m) ∙ computed.c_more k l m
            ∙ ap (minus p) (sym (newton_same (Zmod p) (poly p s) k (rev (Zmod p) d (poly p g)) (poly p c) (λ i j. reversed i (omega arith))));
      }) n (omega arith)

  abbrev H : Seq (Zmod p)
  H = expansion (Zmod p) A B (power_sums_of (Zmod p) d (poly p g))

  -- and those of h its expansion
  expanded : (k : ℕ) → k < d → poly p h k ≡ H k
  expanded zero l = computed.h_zero
  expanded (suc k) l =
      sym (computed.s_more (suc k) (omega arith) l)
      ∙ cc (summed (suc k + 1) (omega arith), summed (suc k - 1) (omega arith), summed (suc k - 2) (omega arith))

  short : ShortTo (Zmod p) q d H
  short = short_to_same (Zmod p) q d (poly p h) H expanded (record {
    first = computed.h_first;
    second = computed.h_second;
    recurs = computed.h_more;
  })

  module _ (P : Prime p) (small : 2 * ℓ (Zmod p) q - 1 < p) where
    first_rule : R1 (Zmod p) q (poly p g)
    first_rule = solution_R1 P q d≥1 small computed coefficients

    only : (g' : Seq (Zmod p)) → Meets (Zmod p) q g' → g' ≡ poly p g
    only = is_solution P q d≥1 small computed coefficients

-- as the contract has it
pub answer : (v : Values) (h s c g : List ℕ) → Ready v → Solved v.p (HAt (Zmod v.p) (question v)) h (half v)
    → Solved v.p (SAt (Zmod v.p) (question v) (poly v.p h)) s (half v + 1) → Solved v.p (CAt (Zmod v.p) (poly v.p s)) c (half v + 1)
    → length c ≡ half v + 1 → length g ≡ half v + 1 → Filled (λ i w. w ≡ get_or c (length c - 1 - i) 0) g (length c) → Candidate v h s g
answer v h s c g ok hs ss cs cl gl back = record {
  reduced =
      reversed_reduced c g (half v) cl gl back v.p
      (solved_all v.p (CAt (Zmod v.p) (poly v.p s)) (prime_pos ok.prime.prime) c (half v + 1) (omega arith) cs);
  r1 = first_rule (question v) (half_least v ok) h s c g hs ss cs cl gl back ok.prime.prime bound;
  only = only (question v) (half_least v ok) h s c g hs ss cs cl gl back ok.prime.prime bound;
  begun = record {
    sums = λ l k m. record {
      below = ss.reduced k (omega arith);
      class = sym (poly_at v.p s k) ∙ summed (question v) (half_least v ok) h s c g hs ss cs cl gl back k m;
    };
    terms = λ k l. record {
      below = hs.reduced k l;
      class = sym (poly_at v.p h k) ∙ expanded (question v) (half_least v ok) h s c g hs ss cs cl gl back k l;
    };
    short = short (question v) (half_least v ok) h s c g hs ss cs cl gl back;
  };
}
  where
    bound : 2 * ℓ (Zmod v.p) (question v) - 1 < v.p
    bound = omega (arith, degree_half v ok, ok.degree)

-- the front of longer slices
pub lent : (v : Values) (h s h' s' g : List ℕ) → ((k : ℕ) → k < half v → get_or h' k 0 ≡ get_or h k 0) → ((k : ℕ) → k ≤ half v → get_or s' k 0 ≡ get_or s k 0)
    → Candidate v h s g → Candidate v h' s' g
lent v h s h' s' g eh es c = record {
  reduced = c.reduced;
  r1 = c.r1;
  only = c.only;
  begun = record {
    sums = λ l k m. subst (Residue v.p (sums_of v g k)) (sym (es k m)) (c.begun.sums l k m);
    terms = λ k l. subst (Residue v.p (terms_of v g k)) (sym (eh k l)) (c.begun.terms k l);
    short = c.begun.short;
  };
}
