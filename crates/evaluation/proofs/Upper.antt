-- Horner's rule by blocks, from the top: `Upper i r` where r has the values at u of the polynomial f(i) + f(i + 1) t + .. + f(n − 1) t^(n − 1 − i) and of
-- its derivative. One block more, and the whole polynomial.
-- Assumes nothing.
use mathlib.Core.Path.{◌≡◌, refl, sym, ◌∙◌, ap, ap₂, fun_ext}
use mathlib.Core.List.{List}
use Prim.Native.Nat.{ℕ, suc, ◌+◌, ◌-◌, ◌≤◌, ◌<◌}
use native.Mathlib.Nat as N
use native.Mathlib.Omega.{arith}
use lib.ListN.{length}
use Rattle.ring.specs.Ring.{pow}
use Rattle.series.specs.Series.{Seq, sum_same, ∂}
use Rattle.series.specs.Degree.{Below}
use Rattle.series.specs.Value.{value, value_zero, value_same}
use Rattle.zmod.specs.Zmod.{Elt, Zmod, mk, plus, times}
use Rattle.zmod.specs.Residues.{Residue, poly, residue_self, residue_same}
use Rattle.evaluation.specs.declared.Jet.{Jet}
use Rattle.evaluation.specs.Tables.{Tables, rise, weighed}
use Rattle.evaluation.specs.Jets.{JetOf, Stepped}
use Rattle.evaluation.proofs.Blocks.{value_block, slope_block}

module _ (p : ℕ) (f : Seq (Zmod p)) (n : ℕ) (u : Elt p) where
  abbrev pub from : ℕ → Seq (Zmod p)
  from i j = f (i + j)

  pub record Upper (i : ℕ) (r : Jet) : Type 0 where
    pub value_is : Residue p (value (Zmod p) (n - i) (from i) u) r.value
    pub slope_is : Residue p (value (Zmod p) (n - i) (∂ (Zmod p) (from i)) u) r.slope

  nothing : (g : Seq (Zmod p)) → 0 < p → Residue p (value (Zmod p) (n - n) g u) 0
  nothing g pos = residue_same (sym (value_zero (Zmod p) g u) ∙ ap (λ k. value (Zmod p) k g u) (sym (N.sub_self n))) (residue_self 0 pos)

  pub upper_none : 0 < p → Upper n (record { value = 0; slope = 0 })
  upper_none pos = record { value_is = nothing (from n) pos; slope_is = nothing (∂ (Zmod p) (from n)) pos }

  module _ (past : Below (Zmod p) n f) (s i : ℕ) (a powers slopes : List ℕ) (above r : Jet) (lo : s ≤ i) (hi : i ≤ n) (count : length a ≡ i - s)
      (block : (j : ℕ) → j < length a → poly p a j ≡ f (s + j)) (room : length a < length powers) (room' : length a < length slopes)
      (T : Tables p u powers slopes) (U : Upper i above) (S : Stepped p a powers slopes above r) where
    abbrev m : ℕ
    m = length a

    long : n - s ≡ m + (n - i)
    long = omega arith

    up : (λ j. from s (m + j)) ≡ from i
    up = fun_ext λ j. ap f (omega arith)

    by_table : (w : Seq (Zmod p)) (ws : List ℕ) → m < length ws → ((j : ℕ) → j < length ws → poly p ws j ≡ w j)
        → weighed (Zmod p) (poly p a) (poly p ws) m ≡ weighed (Zmod p) (from s) w m
    by_table w ws l h =
        sum_same (Zmod p) _ _ m (λ j g. ap₂ (times p) (block j g) (h j (omega arith)))

    value_more : value (Zmod p) (n - s) (from s) u
        ≡ plus p (weighed (Zmod p) (poly p a) (poly p powers) m) (times p (poly p powers m) (mk p above.value))
    value_more =
        ap (λ k. value (Zmod p) k (from s) u) long ∙ value_block (Zmod p) u m (n - i) (from s)
        ∙ sym (ap₂ (plus p) (by_table (pow (Zmod p) u) powers room T.powers_are.coefficients)
        (ap₂ (times p) (T.powers_are.coefficients m room) (U.value_is.class ∙ ap (λ g. value (Zmod p) (n - i) g u) (sym up))))

    -- a coefficient more is 0
    one_more : value (Zmod p) (suc (n - i)) (from i) u ≡ value (Zmod p) (n - i) (from i) u
    one_more =
        value_same (Zmod p) (suc (n - i)) (n - i) (from i) (from i) u (λ j l. past (i + j) (omega arith)) (λ j l. past (i + j) (omega arith)) (λ j. refl)

    slope_more : value (Zmod p) (n - s) (∂ (Zmod p) (from s)) u
        ≡ plus p (plus p (weighed (Zmod p) (poly p a) (poly p slopes) m) (times p (poly p powers m) (mk p above.slope)))
        (times p (poly p slopes m) (mk p above.value))
    slope_more =
        ap (λ k. value (Zmod p) k (∂ (Zmod p) (from s)) u) long ∙ slope_block (Zmod p) u m (n - i) (from s)
        ∙ sym (ap₂ (plus p)
        (ap₂ (plus p) (by_table (rise (Zmod p) u) slopes room' T.slopes_are)
        (ap₂ (times p) (T.powers_are.coefficients m room) (U.slope_is.class ∙ ap (λ g. value (Zmod p) (n - i) (∂ (Zmod p) g) u) (sym up))))
        (ap₂ (times p) (T.slopes_are m room') (U.value_is.class ∙ sym one_more ∙ ap (λ g. value (Zmod p) (suc (n - i)) g u) (sym up))))

    pub upper_more : Upper s r
    upper_more = record { value_is = residue_same (sym value_more) S.value_is; slope_is = residue_same (sym slope_more) S.slope_is }

  whole : from 0 ≡ f
  whole = fun_ext λ j. ap f (N.zero-add j)

pub upper_all : (p : ℕ) (a : List ℕ) (u : Elt p) (r : Jet) → Upper p (poly p a) (length a) u 0 r → JetOf p a u r
upper_all p a u r U = record {
  value_is = residue_same (ap₂ (λ k g. value (Zmod p) k g u) (N.sub-zero (length a)) (whole p (poly p a) (length a) u)) U.value_is;
  slope_is =
      residue_same (ap₂ (λ k g. value (Zmod p) k (∂ (Zmod p) g) u) (N.sub-zero (length a)) (whole p (poly p a) (length a) u)) U.slope_is;
}
