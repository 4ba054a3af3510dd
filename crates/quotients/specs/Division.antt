-- Division by products, in slices: what is prepared for a divisor g, the quotient, and the remainder.
-- Assumes nothing.
use Rattle.std.specs.Prelude.{◌≡◌, refl, List, ℕ, suc, ◌+◌, ◌-◌, ◌≤◌, ◌<◌, length, get_or, take, drop, replicate}
use Rattle.std.proofs.Common.{sym, ◌∙◌, ap, ap₂, subst, arith, length-take, length-drop}
use Rattle.std.proofs.Math.Path.{fun_ext}
use Rattle.std.proofs.Math.Decide.{dec_lt}
use Rattle.std.proofs.Math.ListN.{get_or-eq_default}
use Rattle.ring.specs.Ring
use Rattle.ring.specs.Identity.{solve3}
use Rattle.ring.specs.Identity.Ex.{◌:-◌, ◌:*◌, :-◌}
use Rattle.slices.specs.Filling.{Filled}
use Rattle.slices.specs.Stored.{part_at}
use Rattle.series.specs.Series.{Series, Seq, conv, sums, negs, const}
use Rattle.series.specs.Degree.{Below, below_mono, poly_neg}
use Rattle.series.specs.Reversal.{rev, rev_sub, rev_past}
use Rattle.zmod.specs.Zmod.{Zmod, mk, plus, minus, mk_apart}
use Rattle.zmod.specs.Residues.{Reduced, poly, poly_at, poly_past, poly_below, Residues, residues_poly, residues_same, residues_upto}
use Rattle.rows.specs.Room.{zero_at}
use Rattle.rows.specs.Sums.{Sums, sums_residues}
use Rattle.rows.specs.Product.{held, ThreeZeros, behind_reduced, behind_held}
use Rattle.divisibility.specs.Congruence.{Congruent}
use Rattle.modulo.specs.Modulo.{Divisor, RemainderOf}
use Rattle.quotients.specs.Quotient.{ReversedWords, InverseTo, quotient_below}

-- t holds the inverse of g backwards, and n holds −g
pub record DividesBy (p : ℕ) (g t n : List ℕ) : Type 0 where
  pub long_t : length g + 3 ≤ length t
  pub long_n : length g + 3 ≤ length n
  pub reduced_t : Reduced p t
  pub reduced_n : Reduced p n
  pub zeros_t : ThreeZeros t
  pub zeros_n : ThreeZeros n
  pub inverse : InverseTo (Zmod p) (length g) (rev (Zmod p) (length g - 1) (poly p g)) (held p t)
  pub negative : held p n ≡ negs (Zmod p) (poly p g)

-- q makes the coefficients of a − q g from n on zero, for every g of which t holds the inverse
abbrev pub QuotientTo : (p n : ℕ) (t a q : List ℕ) → Type 0
QuotientTo p n t a q = (g : Seq (Zmod p)) → Below (Zmod p) (suc n) g → InverseTo (Zmod p) (suc n) (rev (Zmod p) n g) (held p t)
    → Below (Zmod p) n (sums (Zmod p) (poly p a) (negs (Zmod p) (conv (Zmod p) (poly p q) g)))

-- the words of a slice backwards are its polynomial's
pub backwards_rev : (p : ℕ) {a out : List ℕ} → 0 < length a → ReversedWords a out → rev (Zmod p) (length a - 1) (poly p a) ≡ poly p out
backwards_rev p {a} {out} some h = fun_ext λ k. go k (dec_lt k (length a))
  where
    go : (k : ℕ) → Dec (k < length a) → rev (Zmod p) (length a - 1) (poly p a) k ≡ poly p out k
    go k (yes l) =
        rev_sub (Zmod p) (length a - 1) k (poly p a) (omega arith) ∙ poly_at p a (length a - 1 - k) ∙ ap (mk p) (sym (h.words k l)) ∙ sym (poly_at p out k)
    go k (no l) = rev_past (Zmod p) (length a - 1) k (poly p a) (omega arith) ∙ sym (poly_past p out k (omega (arith, h.same_length)))

-- and the other way round
pub backwards_back : (p : ℕ) {a out : List ℕ} → 0 < length a → ReversedWords a out → rev (Zmod p) (length a - 1) (poly p out) ≡ poly p a
backwards_back p {a} {out} some h = fun_ext λ k. go k (dec_lt k (length a))
  where
    go : (k : ℕ) → Dec (k < length a) → rev (Zmod p) (length a - 1) (poly p out) k ≡ poly p a k
    go k (yes l) =
        rev_sub (Zmod p) (length a - 1) k (poly p out) (omega arith) ∙ poly_at p out (length a - 1 - k)
        ∙ ap (mk p) (h.words (length a - 1 - k) (omega arith) ∙ ap (λ n. get_or a n 0) (omega arith)) ∙ sym (poly_at p a k)
    go k (no l) = rev_past (Zmod p) (length a - 1) k (poly p out) (omega arith) ∙ sym (poly_past p a k (omega arith))

pub backwards_reduced : {p : ℕ} {a out : List ℕ} → Reduced p a → ReversedWords a out → Reduced p out
backwards_reduced {p} {a} {out} low h j = go (dec_lt j (length a))
  where
    go : Dec (j < length a) → get_or out j 0 < p
    go (yes l) = omega (arith, h.words j l, low (length a - 1 - j))
    go (no l) = let z : get_or out j 0 ≡ 0 = get_or-eq_default out 0 (omega (arith, h.same_length)) in omega (arith, low 0)

pub blank_reduced : (p n : ℕ) (xs : List ℕ) → 0 < p → xs ≡ replicate n 0 → Reduced p xs
blank_reduced p n xs pos e j = let z : get_or xs j 0 ≡ 0 = ap (λ l. get_or l j 0) e ∙ zero_at n j in omega arith

pub filled_reduced : (p : ℕ) (a xs : List ℕ) → Reduced p a → Filled (λ j v. v ≡ get_or a j 0) xs (length xs) → Reduced p xs
filled_reduced p a xs low filled j = go (dec_lt j (length xs))
  where
    go : Dec (j < length xs) → get_or xs j 0 < p
    go (yes l) = omega (arith, filled j l, low j)
    go (no l) = let z : get_or xs j 0 ≡ 0 = get_or-eq_default xs 0 (omega arith) in omega (arith, low 0)

-- ── the quotient: `top` is the end of a backwards, `product` is what it makes with the inverse, and q is that backwards
module _ (p d : ℕ) (t a top acc acc' product q : List ℕ) (size : length a ≡ suc (d + d))
    (first : ReversedWords (take (length a - d) (drop d a)) top) (zero : acc ≡ replicate (suc d) 0) (size' : length acc' ≡ suc d)
    (sum : Sums p (sums (Zmod p) (poly p acc) (conv (Zmod p) (poly p top) (held p t))) acc') (size'' : length product ≡ suc d)
    (reduced : Residues p (poly p acc') product) (last : ReversedWords product q) where
  pub quotient_to : QuotientTo p d t a q
  quotient_to g below inverse =
      quotient_below (Zmod p) d g (poly p a) (rev (Zmod p) d g) (held p t) (poly p top) (poly p product) (poly p q)
      (record { below = below; same = refl }) (poly_below p a (suc (d + d)) (omega arith)) inverse backwards products
      (record { below = poly_below p q (suc d) (omega (arith, last.same_length)); same = turned })
    where
      part : length (take (length a - d) (drop d a)) ≡ suc d
      part = omega (arith, length-take (length a - d) (drop d a), length-drop d a)

      backwards : (k : ℕ) → k ≤ d → poly p top k ≡ poly p a (d + d - k)
      backwards k l =
          poly_at p top k
          ∙ ap (mk p) (first.words k (omega (arith, part)) ∙ part_at a d (length a - d) _ (omega (arith, part)) ∙ ap (λ n. get_or a n 0) (omega (arith, part)))
          ∙ sym (poly_at p a (d + d - k))

      null : (k : ℕ) → poly p acc k ≡ mk p 0
      null k = poly_at p acc k ∙ ap (mk p) (ap (λ l. get_or l k 0) zero ∙ zero_at (suc d) k)

      products : (k : ℕ) → k ≤ d → poly p product k ≡ conv (Zmod p) (poly p top) (held p t) k
      products k l =
          reduced.coefficients k (omega arith) ∙ sum.classes k (omega arith)
          ∙ ap (λ x. plus p x (conv (Zmod p) (poly p top) (held p t) k)) (null k) ∙ Ring.zero-add (Zmod p) _

      turned : rev (Zmod p) d (poly p q) ≡ poly p product
      turned =
          let e : length product - 1 ≡ d = omega arith in
          subst (λ n. rev (Zmod p) n (poly p q) ≡ poly p product) e (backwards_back p (omega arith) last)

-- ── the remainder: r = a + q (−g)
pub subtracted : (p : ℕ) (a q n acc acc' r : List ℕ) → length acc' ≡ length acc → length r ≤ length acc → Filled (λ j v. v ≡ get_or a j 0) acc (length acc)
    → Sums p (sums (Zmod p) (poly p acc) (conv (Zmod p) (poly p q) (held p n))) acc' → Residues p (poly p acc') r
    → Residues p (sums (Zmod p) (poly p a) (conv (Zmod p) (poly p q) (held p n))) r
subtracted p a q n acc acc' r same le filled sum h =
    residues_upto (λ i l. ap (λ x. plus p x (conv (Zmod p) (poly p q) (held p n) i))
    (poly_at p acc i ∙ ap (mk p) (filled i (omega arith)) ∙ sym (poly_at p a i)))
    (sums_residues (omega arith) sum h)

module _ (p d : ℕ) (g t n a q r : List ℕ) (size : length g ≡ suc d) (ready : DividesBy p g t n) (quotient : QuotientTo p d t a q) (long : d ≤ length r)
    (h : Residues p (sums (Zmod p) (poly p a) (conv (Zmod p) (poly p q) (held p n))) r) where
  abbrev difference : Seq (Zmod p)
  difference = sums (Zmod p) (poly p a) (negs (Zmod p) (conv (Zmod p) (poly p q) (poly p g)))

  below : Below (Zmod p) d difference
  below =
      let e : length g - 1 ≡ d = omega arith in
      quotient (poly p g) (poly_below p g (suc d) (omega arith))
      (λ k l. subst (λ j. conv (Zmod p) (rev (Zmod p) j (poly p g)) (held p t) k ≡ const (Zmod p) (mk p 1) k) e (ready.inverse k (omega arith)))

  is : poly p r ≡ difference
  is =
      residues_poly (residues_same same h) (below_mono (Zmod p) d (length r) difference long below)
    where
      same : sums (Zmod p) (poly p a) (conv (Zmod p) (poly p q) (held p n)) ≡ difference
      same = ap (λ s. sums (Zmod p) (poly p a) (conv (Zmod p) (poly p q) s)) ready.negative ∙ ap (sums (Zmod p) (poly p a))
          (Ring.mul-neg (Series (Zmod p)) (poly p q) (poly p g))

  pub divided : RemainderOf p d (poly p g) (poly p a) r
  divided = record {
    reduced = h.reduced;
    below = subst (Below (Zmod p) d) (sym is) below;
    congruent = subst (λ s. Congruent (Zmod p) (poly p g) s (poly p a)) (sym is)
        (record {
          cofactor = negs (Zmod p) (poly p q);
          poly = poly_neg (Zmod p) (poly p q) (length q, poly_past p q);
          is = solve3 (Series (Zmod p)) (λ g a q. g :* (:- q)) (λ g a q. a :- q :* g :- a) tt (poly p g) (poly p a) (poly p q);
        });
  }

-- ── what is prepared
module _ (p : ℕ) (g top q q' t n : List ℕ) (divisor : Divisor p g) (turned : ReversedWords g top)
    (inverse : InverseTo (Zmod p) (length g) (poly p top) (poly p q))
    (low : Reduced p q) (negative : Residues p (negs (Zmod p) (poly p g)) q') (same : length q' ≡ length g) (long_t : length g + 3 ≤ length t)
    (long_n : length g + 3 ≤ length n) (zeros_t : ThreeZeros t) (held_t : (j : ℕ) → get_or t (3 + j) 0 ≡ get_or q j 0) (zeros_n : ThreeZeros n)
    (held_n : (j : ℕ) → get_or n (3 + j) 0 ≡ get_or q' j 0) where
  pub made_ready : DividesBy p g t n
  made_ready = record {
    long_t = long_t;
    long_n = long_n;
    reduced_t = behind_reduced p t q zeros_t held_t low;
    reduced_n = behind_reduced p n q' zeros_n held_n negative.reduced;
    zeros_t = zeros_t;
    zeros_n = zeros_n;
    inverse = λ k l.
        ap₂ (λ x y. conv (Zmod p) x y k) (backwards_rev p divisor.some turned) (behind_held p t q held_t) ∙ inverse k l;
    negative = behind_held p n q' held_n ∙ residues_poly negative (λ i l. ap (minus p) (poly_past p g i (omega arith)) ∙ Ring.neg-zero (Zmod p));
  }

-- g backwards begins with 1
pub backwards_one : (p : ℕ) (g top : List ℕ) → 1 < p → Divisor p g → ReversedWords g top → get_or top 0 0 ≡ 1
backwards_one p g top large h k =
    k.words 0 h.some ∙ mk_apart {p = p} (omega arith) _ 1 (h.reduced (length g - 1 - 0)) large
    (sym (poly_at p g (length g - 1 - 0)) ∙ ap (poly p g) (omega arith) ∙ h.monic.one)
