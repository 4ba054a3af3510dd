-- Multiples of a table's rows added to sums, four rows a turn.
-- Assumes nothing.
use Rattle.std.specs.Prelude.{◌≡◌, List, ℕ, suc, ◌+◌, ◌-◌, ◌*◌, ◌^◌, ◌≤◌, ◌<◌, length, get_or, take, drop}
use Rattle.std.proofs.Common.{sym, ◌∙◌, ap, ap₂, arith}
use Rattle.std.proofs.Math.Nat as N
use Rattle.std.proofs.Math.Decide.{dec_lt}
use Rattle.std.proofs.Math.ListN.{get_or-eq_default}
use Rattle.ring.specs.Ring.{CRing}
use Rattle.slices.specs.Filling.{Filled}
use Rattle.slices.specs.Stored.{part_at, part_below}
use Rattle.series.specs.Series.{Seq, sums}
use Rattle.zmod.specs.Zmod.{Elt, Zmod, mk, plus, times, plus_assoc}
use Rattle.zmod.specs.Residues.{Reduced, poly, poly_at, poly_below}
use Rattle.rows.specs.Rows.{four_more}
use Rattle.rows.specs.Sums.{Sums, products_low}
use Rattle.rows.specs.Turn.{row_class}
use Rattle.folding.specs.Combination.{combination, combination_zero, combination_suc, combination_past}
use Rattle.folding.specs.Table.{rows, row_at, row_inside}

-- word k of acc, and of four rows of d words, the first that t has, times the words of q from i on
abbrev pub fold_more : ℕ → List ℕ → List ℕ → List ℕ → ℕ → ℕ → ℕ
fold_more d acc q t i k =
    get_or acc k 0 + get_or q i 0 * get_or t k 0 + get_or q (1 + i) 0 * get_or t (d + k) 0 + get_or q (2 + i) 0 * get_or t (2 * d + k) 0
    + get_or q (3 + i) 0 * get_or t (3 * d + k) 0

-- four products of residues
pub four_le : (p s w x y z a b c e : ℕ) → w < p → x < p → y < p → z < p → a < p → b < p → c < p → e < p
    → s + w * a + x * b + y * c + z * e ≤ s + 4 * ((p - 1) * (p - 1))
four_le p s w x y z a b c e hw hx hy hz ha hb hc he = omega (arith, product w a hw ha, product x b hx hb, product y c hy hc, product z e hz he)
  where
    product : (u v : ℕ) → u < p → v < p → u * v ≤ (p - 1) * (p - 1)
    product u v hu hv = N.mul-le-mul {n₁ = u} {m₁ = v} (omega arith) (omega arith)

-- t from place u on
abbrev pub from : List ℕ → ℕ → List ℕ
from t u = take (length t - u) (drop u t)

-- the rows as parts of t
module _ (d : ℕ) (acc q t : List ℕ) (i : ℕ) (long : 4 * d ≤ length t) where
  pub four_are : (k : ℕ) → k < d → four_more acc t (from t d) (from t (2 * d)) (from t (3 * d)) (get_or q i 0) (get_or q (1 + i) 0) (get_or q (2 + i) 0)
      (get_or q (3 + i) 0) k ≡ fold_more d acc q t i k
  four_are k l =
      ap₂ ◌+◌ (ap₂ ◌+◌ (ap (λ x. get_or acc k 0 + get_or q i 0 * get_or t k 0 + get_or q (1 + i) 0 * x) (at d (omega arith)))
      (ap (◌*◌ (get_or q (2 + i) 0)) (at (2 * d) (omega arith)))) (ap (◌*◌ (get_or q (3 + i) 0)) (at (3 * d) (omega arith)))
    where
      at : (u : ℕ) → u ≤ 3 * d → get_or (from t u) k 0 ≡ get_or t (u + k) 0
      at u le = part_at t u (length t - u) k (omega arith)

-- acc is acc₀ and the first i rows, each times its word of q
pub record Folded (p : ℕ) (q t acc₀ : List ℕ) (i : ℕ) (acc : List ℕ) : Type 0 where
  pub classes : (k : ℕ) → k < length acc₀ → poly p acc k ≡ plus p (poly p acc₀ k) (combination (Zmod p) i (poly p q) (rows p (length acc₀) t) k)
  pub bounded : (k : ℕ) → get_or acc k 0 ≤ (32 + i) * ((p - 1) * (p - 1))

module _ (p : ℕ) (q t acc₀ : List ℕ) where
  abbrev d : ℕ
  d = length acc₀

  abbrev part : ℕ → Seq (Zmod p)
  part i = combination (Zmod p) i (poly p q) (rows p d t)

  pub folded_none : ((k : ℕ) → get_or acc₀ k 0 ≤ 32 * ((p - 1) * (p - 1))) → Folded p q t acc₀ 0 acc₀
  folded_none h = record {
    classes = λ k l. sym (ap (plus p (poly p acc₀ k)) (combination_zero (Zmod p) (poly p q) (rows p d t) k) ∙ CRing.add-zero (Zmod p) _);
    bounded = h;
  }

  module _ (low_q : Reduced p q) (low_t : Reduced p t) (i : ℕ) (acc : List ℕ) (few : i ≤ 18) (small : p ≤ 2 ^ 28) (h : Folded p q t acc₀ i acc) where
    fits : (n : ℕ) → n ≤ 256 → n * p ≤ 2 ^ 36
    fits n le = N.mul-le-mul {n₁ = n} {m₁ = p} {n₂ = 256} {m₂ = 268435456} le (omega arith)

    -- there is room for one turn more
    pub fold_fits : (k : ℕ) → get_or acc k 0 + 4 * ((p - 1) * (p - 1)) < 2 ^ 64
    fold_fits k =
        omega (
          arith,
          products_low (32 + i + 4) p (get_or acc k 0 + 4 * ((p - 1) * (p - 1))) (omega (arith, low_q 0)) (fits (32 + i + 4) (omega arith))
              (omega (arith, h.bounded k, N.add-mul (32 + i) 4 ((p - 1) * (p - 1)))),
        )

    -- t from row i on is what a turn is given
    abbrev rest : List ℕ
    rest = from t (i * d)

    pub folded_more : (acc' : List ℕ) → i < d → length t ≡ d * (d + 3) → length acc' ≡ d → Filled (λ k v. v ≡ fold_more d acc q rest i k) acc' d
        → Folded p q t acc₀ (i + 4) acc'
    folded_more acc' here long same all = record { classes = classes; bounded = λ k. bounded k (dec_lt k d) }
      where
        low : Reduced p rest
        low = part_below t (i * d) (length t - i * d) p (omega (arith, low_q 0)) low_t

        bounded : (k : ℕ) → Dec (k < d) → get_or acc' k 0 ≤ (32 + (i + 4)) * ((p - 1) * (p - 1))
        bounded k (yes l) =
            omega (
              arith,
              all k l,
              four_le p (get_or acc k 0) _ _ _ _ _ _ _ _ (low_q i) (low_q (1 + i)) (low_q (2 + i)) (low_q (3 + i)) (low k) (low (d + k)) (low (2 * d + k))
                  (low (3 * d + k)),
              h.bounded k,
              N.add-mul (32 + i) 4 ((p - 1) * (p - 1)),
              ap (λ n. n * ((p - 1) * (p - 1))) (N.add_assoc 32 i 4),
            )
        bounded k (no l) = let past : get_or acc' k 0 ≡ 0 = get_or-eq_default acc' 0 (omega arith) in omega arith

        classes : (k : ℕ) → k < d → poly p acc' k ≡ plus p (poly p acc₀ k) (part (i + 4) k)
        classes k l =
            poly_at p acc' k ∙ ap (mk p) (all k l)
            ∙ row_class p (get_or acc k 0) (get_or q i 0) (get_or q (1 + i) 0) (get_or q (2 + i) 0) (get_or q (3 + i) 0) (get_or rest k 0)
            (get_or rest (d + k) 0) (get_or rest (2 * d + k) 0) (get_or rest (3 * d + k) 0)
            ∙ ap (λ x. plus p (plus p (plus p (plus p x (term i k)) (term (1 + i) (d + k))) (term (2 + i) (2 * d + k))) (term (3 + i) (3 * d + k)))
            (sym (poly_at p acc k) ∙ h.classes k l)
            ∙ ap (λ x. plus p (plus p (plus p x (term (1 + i) (d + k))) (term (2 + i) (2 * d + k))) (term (3 + i) (3 * d + k)))
            (next 0 i (1 + i) k (omega arith) (omega arith) (omega arith) (omega arith))
            ∙ ap (λ x. plus p (plus p x (term (2 + i) (2 * d + k))) (term (3 + i) (3 * d + k)))
            (next 1 (1 + i) (2 + i) (d + k) (omega arith) (omega arith) (omega arith) (omega arith))
            ∙ ap (λ x. plus p x (term (3 + i) (3 * d + k))) (next 2 (2 + i) (3 + i) (2 * d + k) (omega arith) (omega arith) (omega arith) (omega arith))
            ∙ next 3 (3 + i) (i + 4) (3 * d + k) (omega arith) (omega arith) (omega arith) (omega arith)
          where
            term : ℕ → ℕ → Elt p
            term j v = times p (mk p (get_or q j 0)) (mk p (get_or rest v 0))

            -- row j is row c of the rest, and there its word is at v
            word : (c j v : ℕ) → c < 4 → j ≡ c + i → v ≡ c * d + k → get_or rest v 0 ≡ get_or t (j * d + k) 0
            word c j v few e place =
                let whole : j * d ≡ c * d + i * d = ap (λ n. n * d) e ∙ N.add-mul c i d in
                part_at t (i * d) (length t - i * d) v (omega (arith, row_inside d j (omega arith))) ∙ ap (λ u. get_or t u 0) (omega arith)

            next : (c j m v : ℕ) → c < 4 → j ≡ c + i → v ≡ c * d + k → m ≡ suc j
                → plus p (plus p (poly p acc₀ k) (part j k)) (term j v) ≡ plus p (poly p acc₀ k) (part m k)
            next c j m v few e place after =
                plus_assoc p _ _ _
                ∙ ap (plus p (poly p acc₀ k)) (ap₂ (λ x y. plus p (part j k) (times p x y)) (sym (poly_at p q j))
                (ap (mk p) (word c j v few e place) ∙ sym (row_at p d t j k l))
                ∙ sym (combination_suc (Zmod p) j (poly p q) (rows p d t) k) ∙ ap (λ n. part n k) (sym after))

    -- past the end of q the rows count nothing
    pub folded_all : length q ≡ d → d ≤ i → length acc ≡ d → Sums p (sums (Zmod p) (poly p acc₀) (part d)) acc
    folded_all long end same = record {
      bounded = λ k. products_low (32 + i) p (get_or acc k 0) (omega (arith, low_q 0)) (fits (32 + i) (omega arith)) (h.bounded k);
      classes = λ k l.
          h.classes k (omega arith) ∙ ap (plus p (poly p acc₀ k)) (ap (λ n. part n k) (omega arith)
          ∙ combination_past (Zmod p) d (i - d) (poly p q) (rows p d t) (poly_below p q d (omega arith)) k);
    }
