-- Polynomials over ℤ/p in slices: a slice that holds a whole polynomial.
-- Assumes nothing.
use Rattle.std.specs.Prelude.{◌≡◌, List, ℕ, ◌+◌, ◌-◌, ◌≤◌, ◌<◌, length}
use Rattle.std.proofs.Common.{sym, ◌∙◌, ap, arith}
use Rattle.ring.specs.Ring
use Rattle.ring.specs.Ring.{cast}
use Rattle.series.specs.Series.{Seq, conv, ∂}
use Rattle.series.specs.Degree.{Below}
use Rattle.zmod.specs.Zmod.{Zmod, mk, minus, cast_mk, mk_sub}
use Rattle.zmod.specs.Residues.{Reduced, poly, poly_past, Residues, residues_poly}
use Rattle.rules.specs.Degrees.{below_∂, below_conv}

-- the words of xs are the residues of the coefficients of a, all of them
pub record Whole (p : ℕ) (a : Seq (Zmod p)) (xs : List ℕ) : Type 0 where
  pub reduced : Reduced p xs
  pub same : poly p xs ≡ a

pub whole : {p : ℕ} {a : Seq (Zmod p)} {xs : List ℕ} → Residues p a xs → Below (Zmod p) (length xs) a → Whole p a xs
whole h past = record { reduced = h.reduced; same = residues_poly h past }

pub whole_same : {p : ℕ} {a b : Seq (Zmod p)} {xs : List ℕ} → a ≡ b → Whole p a xs → Whole p b xs
whole_same e h = record { reduced = h.reduced; same = h.same ∙ e }

-- −n
pub mk_less : {p : ℕ} (n : ℕ) → 0 < p → n ≤ p → mk p (p - n) ≡ minus p (cast (Zmod p) n)
mk_less {p} n pos le =
    ap (mk p) (omega arith) ∙ mk_sub {p = p} pos 0 n le ∙ Ring.zero-add (Zmod p) _ ∙ ap (minus p) (sym (cast_mk p n))

-- ── the result of one call, where the slice is long enough

module _ (p : ℕ) where
  pub from_derivative : (a out : List ℕ) → length a ≤ length out + 1 → Residues p (∂ (Zmod p) (poly p a)) out → Whole p (∂ (Zmod p) (poly p a)) out
  from_derivative a out le h = whole h (below_∂ (Zmod p) (poly p a) (omega arith) (poly_past p a))

  pub from_product : (a b out : List ℕ) → length a + length b ≤ length out + 1 → Residues p (conv (Zmod p) (poly p a) (poly p b)) out
      → Whole p (conv (Zmod p) (poly p a) (poly p b)) out
  from_product a b out le h = whole h (below_conv (Zmod p) (length a) (length b) (poly p a) (poly p b) (omega arith) (poly_past p a) (poly_past p b))
