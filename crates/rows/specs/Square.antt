-- A square by rows: the invariant of its turns. What is above i is still to be squared; acc has the rest.
-- Assumes nothing.
use Rattle.std.specs.Prelude.{◌≡◌, List, ℕ, ◌+◌, ◌*◌, ◌-◌, ◌^◌, ◌%◌, ◌≤◌, ◌<◌, min, length, get_or, take, drop}
use Rattle.std.proofs.Math.Path.{refl, fun_ext}
use Rattle.std.proofs.Common.{sym, ◌∙◌, ap, ap₂, arith}
use Rattle.std.proofs.Math.Nat as N
use Rattle.std.proofs.Math.Decide.{dec_lt}
use Rattle.ring.specs.Ring
use Rattle.series.specs.Series.{Seq, conv}
use Rattle.slices.specs.Stored.{part_below}
use Rattle.zmod.specs.Zmod.{Zmod, mk, plus, mk_add, plus_zero, plus_assoc}
use Rattle.zmod.specs.Residues.{poly, poly_at, poly_below, Reduced}
use Rattle.rows.specs.Rows.{row_more, row_le, RowsAdded, added_le}
use Rattle.rows.specs.Room.{Held, held_past, held_le, blank, zero_at, turns}
use Rattle.rows.specs.Block.{upper, upper_low, upper_high, upper_none, upper_square, block, square_step}
use Rattle.rows.specs.Sums.{ProductSums, products_low}
use Rattle.rows.specs.Turn.{turn_classes}

-- the square of the terms of a from i on
abbrev pub rest : (p : ℕ) → List ℕ → ℕ → Seq (Zmod p)
rest p a i = conv (Zmod p) (upper (Zmod p) i (poly p a)) (upper (Zmod p) i (poly p a))

-- what one turn at i makes of acc: the square of what is above i is now that of what is above i + 4, and a sum has grown by eight products at most
pub record Turned (p : ℕ) (a : List ℕ) (i : ℕ) (acc acc' : List ℕ) : Type 0 where
  pub classes : (k : ℕ) → k < length acc → plus p (poly p acc' k) (rest p a (4 + i) k) ≡ plus p (poly p acc k) (rest p a i k)
  pub bounded : (k : ℕ) → get_or acc' k 0 ≤ get_or acc k 0 + 8 * ((p - 1) * (p - 1))

module _ (p : ℕ) (a e acc : List ℕ) (i len : ℕ) (here : i < length a) (h : Held a i e) (low : Reduced p a) where
  abbrev part : List ℕ
  part = take (length e - i) (drop i e)

  small : (j : ℕ) → get_or a j 0 ≤ p - 1
  small j = omega (arith, low j)

  part_le : (u : ℕ) → get_or part u 0 ≤ 2 * (p - 1)
  part_le u = omega (arith, part_below e i (length e - i) (2 * (p - 1) + 1) (omega arith) (λ j. omega (arith, held_le a e i (p - 1) h small j)) u)

  pub turn_fits : (s j : ℕ) → row_more s part j (get_or a i 0) (get_or a (1 + i) 0) (get_or a (2 + i) 0) (get_or a (3 + i) 0) ≤ s + 8 * ((p - 1) * (p - 1))
  turn_fits s j =
      omega (
        arith,
        row_le (p - 1) (2 * (p - 1)) s part j _ _ _ _ (small i) (small (1 + i)) (small (2 + i)) (small (3 + i)) part_le,
        N.mul_left_comm (p - 1) 2 (p - 1),
      )

  -- what e holds: the terms from i on, and those from i + 4 on once more
  holds : (j : ℕ) → mk p (get_or e (3 + j) 0) ≡ plus p (upper (Zmod p) i (poly p a) j) (upper (Zmod p) (4 + i) (poly p a) j)
  holds j = go (dec_lt j i) (dec_lt j (4 + i))
    where
      go : Dec (j < i) → Dec (j < 4 + i) → mk p (get_or e (3 + j) 0) ≡ plus p (upper (Zmod p) i (poly p a) j) (upper (Zmod p) (4 + i) (poly p a) j)
      go (yes l) _ =
          ap (mk p) (h.low (3 + j) (omega arith))
          ∙ sym (ap₂ (plus p) (upper_low (Zmod p) i (poly p a) j l) (upper_low (Zmod p) (4 + i) (poly p a) j (omega arith)) ∙ plus_zero p (mk p 0))
      go (no l) (yes m) =
          ap (mk p) (h.once j (omega arith) m) ∙ sym (poly_at p a j)
          ∙ sym (ap₂ (plus p) (upper_high (Zmod p) i (poly p a) j (omega arith)) (upper_low (Zmod p) (4 + i) (poly p a) j m) ∙ plus_zero p _)
      go (no l) (no m) =
          ap (mk p) (h.twice j (omega arith) ∙ omega arith) ∙ mk_add p (get_or a j 0) (get_or a j 0) ∙ ap₂ (plus p) (sym (poly_at p a j)) (sym (poly_at p a j))
          ∙ sym (ap₂ (plus p) (upper_high (Zmod p) i (poly p a) j (omega arith)) (upper_high (Zmod p) (4 + i) (poly p a) j (omega arith)))

  pub turned : (acc' : List ℕ) → i + len + 3 ≤ length e → len ≡ min (length a - i + 3) (length acc - (i + i))
      → RowsAdded acc part (i + i) len (get_or a i 0) (get_or a (1 + i) 0) (get_or a (2 + i) 0) (get_or a (3 + i) 0) acc' → Turned p a i acc acc'
  turned acc' long size added = record {
    classes = λ k l.
        ap (λ t. plus p t (rest p a (4 + i) k)) (turn_classes p a e acc acc' i i len h.low past long added k l
        ∙ ap (λ f. plus p (poly p acc k) (conv (Zmod p) (block (Zmod p) i (poly p a)) f k)) (fun_ext holds))
        ∙ plus_assoc p _ _ _ ∙ ap (plus p (poly p acc k)) (sym (square_step (Zmod p) i (poly p a) k));
    bounded = λ k.
        omega (
          arith,
          added_le (p - 1) (2 * (p - 1)) acc part (i + i) len _ _ _ _ acc' added (small i) (small (1 + i)) (small (2 + i)) (small (3 + i)) part_le k,
          N.mul_left_comm (p - 1) 2 (p - 1),
        );
  }
    where
      past : (k : ℕ) → i + i + len ≤ k → k < length acc → (u : ℕ) → k - i ≤ u → get_or e u 0 ≡ 0
      past k l m u g = held_past a e i h (omega arith) u (omega arith)

-- ── all turns

-- acc and the square of what is above i make the square of a; a sum has at most two products for each word below i
pub record Added (p : ℕ) (a : List ℕ) (i : ℕ) (acc : List ℕ) : Type 0 where
  pub classes : (k : ℕ) → k < length acc → plus p (poly p acc k) (rest p a i k) ≡ rest p a 0 k
  pub bounded : (k : ℕ) → get_or acc k 0 ≤ 2 * i * ((p - 1) * (p - 1))

module _ (p : ℕ) (a : List ℕ) where
  pub added_none : (acc : List ℕ) (n : ℕ) → acc ≡ blank n → Added p a 0 acc
  added_none acc n e = record {
    classes = λ k l. ap (λ t. plus p t (rest p a 0 k)) (poly_at p acc k ∙ ap (mk p) (zero k)) ∙ Ring.zero-add (Zmod p) _;
    bounded = λ k. omega (arith, zero k);
  }
    where
      zero : (k : ℕ) → get_or acc k 0 ≡ 0
      zero k = ap (λ l. get_or l k 0) e ∙ zero_at n k

  pub added_more : (i : ℕ) (acc acc' : List ℕ) → length acc' ≡ length acc → Added p a i acc → Turned p a i acc acc' → Added p a (i + 4) acc'
  added_more i acc acc' size h t = record {
    classes = λ k l.
        ap (λ j. plus p (poly p acc' k) (rest p a j k)) (omega arith) ∙ t.classes k (omega arith) ∙ h.classes k (omega arith);
    bounded = λ k. omega (arith, h.bounded k, t.bounded k, N.add-mul (2 * i) 8 ((p - 1) * (p - 1)));
  }

  few : (i c : ℕ) (acc : List ℕ) → 2 * i ≤ c → Added p a i acc → (k : ℕ) → get_or acc k 0 ≤ c * ((p - 1) * (p - 1))
  few i c acc le h k = N.le_trans (h.bounded k) (N.mul-le-mul_right ((p - 1) * (p - 1)) le)

  -- there is room for one turn more
  pub turn_counts : (i n m : ℕ) → i % 4 ≡ 0 → i < n → i + i < m → 2 * (i + 4) ≤ 8 * turns n m
  turn_counts i n m four here below = omega arith

  pub turn_room : (i c : ℕ) → 2 * (i + 4) ≤ c → c * p ≤ 2 ^ 36 → 2 * (i + 4) * p ≤ 2 ^ 36
  turn_room i c le fits = N.le_trans (N.mul-le-mul_right p le) fits

  pub turn_below : (i k : ℕ) (acc : List ℕ) → 0 < p → p ≤ 2 ^ 28 → 2 * (i + 4) * p ≤ 2 ^ 36 → Added p a i acc
      → get_or acc k 0 + 8 * ((p - 1) * (p - 1)) < 2 ^ 64
  turn_below i k acc pos le fits h =
      omega (
        arith,
        products_low (2 * (i + 4)) p (get_or acc k 0 + 8 * ((p - 1) * (p - 1))) pos fits
            (omega (arith, h.bounded k, N.add-mul (2 * i) 8 ((p - 1) * (p - 1)))),
      )

  whole : (k : ℕ) → rest p a 0 k ≡ conv (Zmod p) (poly p a) (poly p a) k
  unfolding upper
  whole k = refl

  -- at the end of a, and at the end of the sums: no more products than the turns have
  pub added_all : (i c : ℕ) (acc : List ℕ) → 2 * i ≤ c → length a ≤ i → Added p a i acc → ProductSums c p (conv (Zmod p) (poly p a) (poly p a)) acc
  added_all i c acc le end h = record {
    few = few i c acc le h;
    classes = λ k l.
        sym (plus_zero p _) ∙ ap (plus p (poly p acc k)) (sym (upper_none (Zmod p) i (poly p a) _ (poly_below p a i end) k)) ∙ h.classes k l ∙ whole k;
  }

  pub added_end : (i c : ℕ) (acc : List ℕ) → 2 * i ≤ c → length acc ≤ i + i → Added p a i acc → ProductSums c p (conv (Zmod p) (poly p a) (poly p a)) acc
  added_end i c acc le end h = record {
    few = few i c acc le h;
    classes = λ k l.
        sym (plus_zero p _) ∙ ap (plus p (poly p acc k)) (sym (upper_square (Zmod p) i (poly p a) k (omega arith))) ∙ h.classes k l ∙ whole k;
  }
