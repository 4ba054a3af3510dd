-- The square and its remainder: sums that were made from place b on are those of xᵇ times the polynomial, and what is folded back of 2d sums is their
-- remainder.
-- Assumes nothing.
use Rattle.std.specs.Prelude.{◌≡◌, List, ◌++◌, ℕ, suc, ◌+◌, ◌-◌, ◌*◌, ◌≤◌, ◌<◌, length, get_or, set, take, drop}
use Rattle.std.proofs.Common.{sym, ◌∙◌, ap, subst, arith, length-append, length-set, length-take, length-drop, get_or-take, get_or-set_same}
use Rattle.std.proofs.Math.Path.{fun_ext}
use Rattle.std.proofs.Math.Nat as N
use Rattle.std.proofs.Math.Decide.{dec_lt}
use Rattle.std.proofs.Math.ListN.{get_or-eq_default}
use Rattle.slices.specs.Stored.{part_at, back_before, back_inside, back_after}
use Rattle.series.specs.Series.{Seq, conv, sums}
use Rattle.series.specs.Degree.{Below, sums_below, below_mono, degree_mul}
use Rattle.series.specs.Reversal.{shift, shift_low, shift_at}
use Rattle.zmod.specs.Zmod.{Zmod, mk}
use Rattle.zmod.specs.Residues.{poly, poly_at, poly_past, poly_below, Residues, residues_poly}
use Rattle.rows.specs.Sums.{Sums, ProductSums, sums_residues}
use Rattle.divisibility.specs.Congruence.{Congruent}
use Rattle.modulo.specs.Modulo.{RemainderOf}
use Rattle.folding.specs.Combination.{combination, combination_below, folded_back}
use Rattle.folding.specs.Table.{Table, rows, row_below}

-- a bound by more products
pub product_sums_mono : {p c c' : ℕ} {f : Seq (Zmod p)} {xs : List ℕ} → c ≤ c' → ProductSums c p f xs → ProductSums c' p f xs
product_sums_mono {p} le h = record { few = λ k. N.le_trans (h.few k) (N.mul-le-mul_right ((p - 1) * (p - 1)) le); classes = h.classes }

-- acc begins with 0, and `part` takes the place of what is from b on
module _ (p c b len : ℕ) (f : Seq (Zmod p)) (acc part : List ℕ) (bit : b ≤ 1) (some : 0 < length acc) (whole : b + len ≡ length acc) (long : length part ≡ len)
    (h : ProductSums c p f part) where
  abbrev back : List ℕ
  back = take b (set acc 0 0) ++ (part ++ drop len (drop b (set acc 0 0)))

  inside : b + len ≤ length (set acc 0 0)
  inside = omega (arith, length-set acc 0 0)

  first : (k : ℕ) → k < b → get_or back k 0 ≡ 0
  first k l =
      back_before (set acc 0 0) part b len inside long k l ∙ ap (λ j. get_or (set acc 0 0) j 0) (omega arith) ∙ get_or-set_same acc 0 0 0 some

  then : (k : ℕ) → b ≤ k → k < length acc → get_or back k 0 ≡ get_or part (k - b) 0
  then k l m = ap (λ j. get_or back j 0) (omega arith) ∙ back_inside (set acc 0 0) part b len inside long (k - b) (omega arith)

  size : length back ≡ length acc
  size =
      omega (
        arith,
        length-append (take b (set acc 0 0)) (part ++ drop len (drop b (set acc 0 0))),
        length-append part (drop len (drop b (set acc 0 0))),
        length-take b (set acc 0 0),
        length-drop len (drop b (set acc 0 0)),
        length-drop b (set acc 0 0),
        length-set acc 0 0,
      )

  pub moved_sums : ProductSums c p (shift (Zmod p) b f) back
  moved_sums = record { few = λ k. few k (dec_lt k b) (dec_lt k (length acc)); classes = λ k l. class k (omega (arith, size)) (dec_lt k b) }
    where
      few : (k : ℕ) → Dec (k < b) → Dec (k < length acc) → get_or back k 0 ≤ c * ((p - 1) * (p - 1))
      few k (yes l) _ = omega (arith, first k l)
      few k (no l) (yes m) = omega (arith, then k (omega arith) m, h.few (k - b))
      few k (no l) (no m) = omega (arith, back_after (set acc 0 0) part b len inside long k (omega arith), past)
        where
          past : get_or (set acc 0 0) k 0 ≡ 0
          past = get_or-eq_default (set acc 0 0) 0 (omega (arith, length-set acc 0 0))

      class : (k : ℕ) → k < length acc → Dec (k < b) → poly p back k ≡ shift (Zmod p) b f k
      class k m (yes l) = poly_at p back k ∙ ap (mk p) (first k l) ∙ sym (shift_low (Zmod p) b f k l)
      class k m (no l) =
          let e : b + (k - b) ≡ k = omega arith in
          poly_at p back k ∙ ap (mk p) (then k (omega arith) m) ∙ sym (poly_at p part (k - b)) ∙ h.classes (k - b) (omega arith)
          ∙ sym (shift_at (Zmod p) b f (k - b)) ∙ ap (shift (Zmod p) b f) e

-- the sums of xᵇ r² hold all of it where there are twice as many as r has words
pub square_whole : (p c b : ℕ) (r acc : List ℕ) → b ≤ 1 → 0 < length r → length acc ≡ length r + length r
    → ProductSums c p (shift (Zmod p) b (conv (Zmod p) (poly p r) (poly p r))) acc → poly p acc ≡ shift (Zmod p) b (conv (Zmod p) (poly p r) (poly p r))
square_whole p c b r acc bit some long h = fun_ext λ k. go k (dec_lt k (length acc))
  where
    square : Seq (Zmod p)
    square = conv (Zmod p) (poly p r) (poly p r)

    short : Below (Zmod p) (suc (length r - 1)) (poly p r)
    short = poly_below p r (suc (length r - 1)) (omega arith)

    go : (k : ℕ) → Dec (k < length acc) → poly p acc k ≡ shift (Zmod p) b square k
    go k (yes l) = h.classes k l
    go k (no l) =
        let e : b + (k - b) ≡ k = omega arith in
        poly_past p acc k (omega arith)
        ∙ sym (ap (shift (Zmod p) b square) (sym e) ∙ shift_at (Zmod p) b square (k - b)
        ∙ degree_mul (Zmod p) (length r - 1) (length r - 1) (poly p r) (poly p r) short short (k - b) (omega arith))

-- ── the remainder: the upper half of acc is folded back by the table, and the lower half takes one remainder
module _ (p d len : ℕ) (acc q t part r : List ℕ) (long : length acc ≡ d + d) (half : len ≡ d) (long_q : length q ≡ d) (long_part : length part ≡ d)
    (long_r : length r ≡ d) (upper : Residues p (poly p (take len (drop d acc))) q)
    (folded : Sums p (sums (Zmod p) (poly p (take d acc)) (combination (Zmod p) d (poly p q) (rows p d t))) part)
    (reduced : Residues p (poly p part) r) where
  abbrev low : Seq (Zmod p)
  low = poly p (take d acc)

  low_short : Below (Zmod p) d low
  low_short = poly_below p (take d acc) d (omega (arith, length-take d acc))

  is : poly p r ≡ sums (Zmod p) low (combination (Zmod p) d (poly p q) (rows p d t))
  is =
      residues_poly (sums_residues (omega arith) folded reduced) (below_mono (Zmod p) d (length r) _ (omega arith)
      (sums_below (Zmod p) d low (combination (Zmod p) d (poly p q) (rows p d t)) low_short
      (combination_below (Zmod p) d d (poly p q) (rows p d t) (row_below p d t))))

  pub remainder_folded : (g : Seq (Zmod p)) → Table p d g d t → RemainderOf p d g (poly p acc) r
  remainder_folded g table = record {
    reduced = reduced.reduced;
    below = poly_below p r d (omega arith);
    congruent = subst (λ f. Congruent (Zmod p) g f (poly p acc)) (sym is)
        (folded_back (Zmod p) d d (poly p acc) low (poly p q) (poly_below p acc (d + d) (omega arith)) low_short
        (λ k l. poly_at p (take d acc) k ∙ ap (mk p) (get_or-take d acc k 0 l) ∙ sym (poly_at p acc k))
        (λ i l. upper.coefficients i (omega arith) ∙ poly_at p (take len (drop d acc)) i ∙ ap (mk p) (part_at acc d len i (omega arith))
        ∙ sym (poly_at p acc (d + i))) g (rows p d t) table.powers);
  }
