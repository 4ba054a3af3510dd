-- A step of Euclid's algorithm in slices: where the next remainder begins, and what the rows are then.
-- Assumes nothing.
use Rattle.std.specs.Prelude.{◌≡◌, refl, List, ℕ, ◌+◌, ◌-◌, ◌*◌, ◌/◌, ◌≤◌, ◌<◌, length}
use Rattle.std.proofs.Common.{sym, ◌∙◌, ap, subst, arith}
use Rattle.ring.specs.Ring.{CRing}
use Rattle.ring.specs.Field.{Inverse}
use Rattle.series.specs.Series.{Seq, conv}
use Rattle.zmod.specs.Zmod.{Zmod, mk, minus, mk_nonzero}
use Rattle.zmod.specs.Prime.{Prime, prime_pos, inverse}
use Rattle.zmod.specs.Residues.{Residue, poly}
use Rattle.poles.specs.Rows.{combination, H, Rows, Reducing, reducing_start, reducing_next, reducing_end}
use Rattle.poles.specs.Words.{remainder, RowsOf}

-- h has n + 1 words, n is even, and k, where a remainder of the row in u begins, is between n/2 and n, so that n − k + 1 words hold the row
pub record Sized (h u : List ℕ) (k : ℕ) : Type 0 where
  pub degree : ℕ
  pub some : 1 ≤ degree
  pub few : degree ≤ 254
  pub words : length h ≡ 2 * degree + 1
  pub room : length u ≡ degree + 1
  pub least : degree ≤ k
  pub most : k ≤ 2 * degree

-- of the coefficients of u's remainder from n/2 on, below k, c is the highest that is not 0, and stands at l; or they all are 0, and so is c
pub record Highest (p : ℕ) (h u : List ℕ) (k l c : ℕ) : Type 0 where
  pub least : (length h - 1) / 2 ≤ l
  pub inside : 0 < c → l < k
  pub class : 0 < c → Residue p (remainder p h u l) c
  pub gap : (i : ℕ) → l < i → i < k → remainder p h u i ≡ mk p 0
  pub none : c ≡ 0 → (i : ℕ) → (length h - 1) / 2 ≤ i → i < k → remainder p h u i ≡ mk p 0

pub highest_unit : {p : ℕ} {h u : List ℕ} {k l c : ℕ} → Prime p → Highest p h u k l c → 0 < c → Inverse (Zmod p) (remainder p h u l)
highest_unit {p} {h} {u} {k} {l} {c} P high pos =
    inverse P _ (λ e. mk_nonzero (prime_pos P) c pos (high.class pos).below ((high.class pos).class ∙ e))

-- ── dividing one coefficient after the other

module _ (p : ℕ) (h t u : List ℕ) (k l b : ℕ) (P : Prime p) (high : Highest p h u k l b) (pos : 0 < b) where
  abbrev R : CRing
  R = Zmod p

  abbrev n : ℕ
  n = length h - 1

  -- what is left after some of it, whatever the rows were: i is where it begins, w its first coefficient, and x the row that belongs to it
  abbrev pub Left : ℕ → ℕ → List ℕ → ℕ → Type 0
  Left top i x w = (next : ℕ) (rows : RowsOf p h k top next t u)
      → Reducing R n (poly p h) rows l (high.inside pos) (highest_unit P high pos) high.gap i (mk p w) (poly p x)

  pub left_start : (top : ℕ) → Left top k t top
  left_start top next rows = reducing_start R n (poly p h) rows l (high.inside pos) (highest_unit P high pos) high.gap

  module _ (top i : ℕ) (x y : List ℕ) (w : ℕ) (left : Left top i x w) (inside : l ≤ i) (most : i ≤ k)
      (y_is : poly p y ≡ combination (Zmod p) (i - l) (mk p b) (mk p 0) (minus p (mk p w)) (poly p x) (poly p u)) where
    abbrev made : Seq R
    made = combination R (i - l) (mk p b) (mk p 0) (minus p (mk p w)) (poly p x) (poly p u)

    pub left_next : (v : ℕ) → l < i → Residue p (remainder p h y (i - 1)) v → Left top (i - 1) y v
    left_next v less v_is next rows =
        subst (λ z. Reducing R n (poly p h) rows l (high.inside pos) (highest_unit P high pos) high.gap (i - 1) (mk p v) z) (sym y_is)
        (subst (λ z. Reducing R n (poly p h) rows l (high.inside pos) (highest_unit P high pos) high.gap (i - 1) z made)
        (ap (λ z. conv R z (H R n (poly p h)) (i - 1)) (sym y_is) ∙ sym v_is.class)
        (reducing_next R n (poly p h) rows l (high.inside pos) (highest_unit P high pos) high.gap i (mk p w) (mk p b) (minus p (mk p w)) (poly p x)
        (left next rows) inside most (sym (high.class pos).class) refl (i - 1) (omega arith)))

    pub left_end : i ≡ l → (next : ℕ) → RowsOf p h k top next t u → Rows R n (poly p h) l (mk p b) (remainder p h u (l - 1)) (poly p u) (poly p y)
    left_end e next rows =
        subst (Rows R n (poly p h) l (mk p b) (remainder p h u (l - 1)) (poly p u)) (sym y_is)
        (subst (λ z. Rows R n (poly p h) l z (remainder p h u (l - 1)) (poly p u) made) (sym (high.class pos).class)
        (reducing_end R n (poly p h) rows l (high.inside pos) (highest_unit P high pos) high.gap i (mk p w) (mk p b) (minus p (mk p w)) (poly p x)
        (left next rows) inside most (sym (high.class pos).class) refl e))
