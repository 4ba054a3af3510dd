-- Where the words of a polynomial end: `Trimmed a n`, a's zeros begin at n; `Leads p b`, b holds the residues of a polynomial, of which the last word is not
-- 0, so that over a field it is a unit.
-- Assumes nothing.
use Rattle.std.specs.Prelude.{◌≡◌, List, ◌∷◌, ◌++◌, ℕ, zero, suc, ◌+◌, ◌-◌, ◌≤◌, ◌<◌, length, get_or, take, drop}
use Rattle.std.proofs.Common.{sym, ◌∙◌, ap, arith, length-take, get_or-take, get_or-drop, get_or-append-add}
use Rattle.std.proofs.Math.Path.{fun_ext}
use Rattle.std.proofs.Math.Decide.{dec_lt}
use Rattle.std.proofs.Math.ListN.{get_or-append}
use Rattle.series.specs.Degree.{Below, Leading, Monic}
use Rattle.zmod.specs.Zmod.{Zmod, mk, mk_apart, mk_nonzero}
use Rattle.zmod.specs.Prime.{Prime, prime_pos, inverse}
use Rattle.zmod.specs.Residues.{Reduced, poly, poly_at, poly_past, reduced_take}

-- the words from n on are 0, and the one before is not
pub record Trimmed (a : List ℕ) (n : ℕ) : Type 0 where
  pub fits : n ≤ length a
  pub past : (j : ℕ) → n ≤ j → get_or a j 0 ≡ 0
  pub last : 0 < n → 0 < get_or a (n - 1) 0

pub record Leads (p : ℕ) (b : List ℕ) : Type 0 where
  pub reduced : Reduced p b
  pub some : 0 < length b
  pub last : 0 < get_or b (length b - 1) 0

-- ── the polynomials

-- the front of a slice
pub poly_front : (p n : ℕ) (a : List ℕ) (i : ℕ) → i < n → poly p (take n a) i ≡ poly p a i
poly_front p n a i l = poly_at p (take n a) i ∙ ap (mk p) (get_or-take n a i 0 l) ∙ sym (poly_at p a i)

-- it holds all of a polynomial that ends there
pub take_poly : (p : ℕ) {n : ℕ} (a : List ℕ) → Below (Zmod p) n (poly p a) → poly p (take n a) ≡ poly p a
take_poly p {n} a below = fun_ext λ i. go i (dec_lt i n)
  where
    go : (i : ℕ) → Dec (i < n) → poly p (take n a) i ≡ poly p a i
    go i (yes l) = poly_front p n a i l
    go i (no l) = poly_past p (take n a) i (omega (arith, length-take n a)) ∙ sym (below i (omega arith))

module _ (p : ℕ) {n : ℕ} {a : List ℕ} (h : Trimmed a n) where
  pub trimmed_past : Below (Zmod p) n (poly p a)
  trimmed_past i l = poly_at p a i ∙ ap (mk p) (h.past i l)

  pub trimmed_leads : Reduced p a → 0 < n → Leads p (take n a)
  trimmed_leads low pos =
      let size : length (take n a) ≡ n = omega (arith, length-take n a, h.fits) in
      record {
        reduced = reduced_take a (omega (arith, low 0)) n low;
        some = omega arith;
        last = omega (arith, ap (λ k. get_or (take n a) (k - 1) 0) size, get_or-take n a (n - 1) 0 (omega arith), h.last pos);
      }

  -- the zeros begin where the polynomial ends, or before
  pub trimmed_below : {k : ℕ} → Reduced p a → Below (Zmod p) k (poly p a) → n ≤ k
  trimmed_below {k} low below = go (dec_lt k n)
    where
      go : Dec (k < n) → n ≤ k
      go (no l) = omega arith
      go (yes l) =
          let null : get_or a (n - 1) 0 ≡ 0 = mk_apart {p = p} (omega (arith, low 0)) _ 0 (low (n - 1)) (omega (arith, low 0))
          (sym (poly_at p a (n - 1)) ∙ below (n - 1) (omega arith)) in
          absurd (omega (arith, h.last (omega arith)))

-- a word 0 before all others
pub reduced_behind : {p : ℕ} (b : List ℕ) → 0 < p → Reduced p b → Reduced p (0 ∷ b)
reduced_behind b pos low zero = pos
reduced_behind b pos low (suc i) = low i

-- ── a front that was lent and came back: `part` in the place of the first n words

module _ (xs part : List ℕ) (n : ℕ) (long : length part ≡ n) where
  pub front_inside : (i : ℕ) → i < n → get_or (part ++ drop n xs) i 0 ≡ get_or part i 0
  front_inside i l = get_or-append part (drop n xs) 0 i (omega arith)

  pub front_past : (i : ℕ) → n ≤ i → get_or (part ++ drop n xs) i 0 ≡ get_or xs i 0
  front_past i l =
      let e : length part + (i - n) ≡ i = omega arith in
      let f : n + (i - n) ≡ i = omega arith in
      ap (λ j. get_or (part ++ drop n xs) j 0) (sym e) ∙ get_or-append-add part (drop n xs) (i - n) 0 ∙ get_or-drop n xs (i - n) 0 ∙ ap (λ j. get_or xs j 0) f

-- where the words behind are 0, it holds all
pub front_poly : (p : ℕ) (xs part : List ℕ) (n : ℕ) → length part ≡ n → Below (Zmod p) n (poly p xs) → poly p (part ++ drop n xs) ≡ poly p part
front_poly p xs part n long below = fun_ext λ i. poly_at p (part ++ drop n xs) i ∙ go i (dec_lt i n)
  where
    go : (i : ℕ) → Dec (i < n) → mk p (get_or (part ++ drop n xs) i 0) ≡ poly p part i
    go i (yes l) = ap (mk p) (front_inside xs part n long i l) ∙ sym (poly_at p part i)
    go i (no l) =
        ap (mk p) (front_past xs part n long i (omega arith)) ∙ sym (poly_at p xs i) ∙ below i (omega arith) ∙ sym (poly_past p part i (omega arith))

pub front_reduced : (p : ℕ) (xs part : List ℕ) (n : ℕ) → length part ≡ n → Reduced p xs → Reduced p part → Reduced p (part ++ drop n xs)
front_reduced p xs part n long low low' i = go (dec_lt i n)
  where
    go : Dec (i < n) → get_or (part ++ drop n xs) i 0 < p
    go (yes l) = omega (arith, front_inside xs part n long i l, low' i)
    go (no l) = omega (arith, front_past xs part n long i (omega arith), low i)

-- ── the leading coefficient of a divisor

module _ {p : ℕ} {b : List ℕ} (P : Prime p) (h : Leads p b) where
  pub leads_leading : Leading (Zmod p) (length b - 1) (poly p b)
  leads_leading = record {
    below = λ i l. poly_past p b i (let s : 0 < length b = h.some in omega arith);
    unit = inverse P _ (λ e. mk_nonzero (prime_pos P) (get_or b (length b - 1) 0) h.last (h.reduced (length b - 1)) (sym (poly_at p b (length b - 1)) ∙ e));
  }

-- a monic polynomial may be divided by
pub monic_leads : {p : ℕ} {b : List ℕ} → 1 < p → Reduced p b → 0 < length b → Monic (Zmod p) (length b - 1) (poly p b) → Leads p b
monic_leads {p} {b} large low some h = record { reduced = low; some = some; last = last }
  where
    one : get_or b (length b - 1) 0 ≡ 1
    one = mk_apart {p = p} (omega arith) _ 1 (low (length b - 1)) large (sym (poly_at p b (length b - 1)) ∙ h.one)

    last : 0 < get_or b (length b - 1) 0
    last = omega (arith, one)
