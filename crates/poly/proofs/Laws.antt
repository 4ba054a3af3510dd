-- What single words contribute: the coefficient of a derivative, c times a word added to a word, a coefficient of a scaled polynomial, and slices of
-- equal words.
-- Assumes nothing.
use mathlib.Core.Path.{◌≡◌, refl, sym, ◌∙◌, ap, ap₂, subst, fun_ext}
use mathlib.Core.Logic.{◌≢◌}
use mathlib.Core.Bool.{Bool, true, false, false≢true}
use mathlib.Core.List.{List, ◌++◌}
use Prim.Native.Nat.{ℕ, suc, ◌+◌, ◌-◌, ◌*◌, ◌^◌, ◌≤◌, ◌<◌, min}
use native.Mathlib.Nat as N
use native.Mathlib.Decide.{dec_lt}
use native.Mathlib.Numerals.{add-one}
use native.Mathlib.Omega.{arith}
use lib.ListN.{length, get_or, take, drop, replicate, get_or-eq_default, get_or-append, length-replicate, get_or-replicate}
use Rattle.std.proofs.Common.{length-append, length-drop, length-take-le, get_or-drop, get_or-take}
use Rattle.std.proofs.lemmas.List.{get_or-append_right}
use Rattle.std.proofs.lemmas.List.FromFn.{length-range_with_len, get_or-range_with_len}
use Rattle.std.specs.Bool.{MatchBool}
use Rattle.std.specs.List.{AllWithin, HoldsAt, range_with_len}
use Rattle.ring.specs.Ring
use Rattle.ring.specs.Ring.{cast}
use Rattle.series.specs.Series.{Seq, conv, sums, scaled, negs, ∂, ∂-at}
use Rattle.zmod.specs.Zmod.{Zmod, mk, plus, minus, times, plus_zero, mk_apart, cast_mk}
use Rattle.zmod.specs.Residues.{Residue, Reduced, poly, poly_at, poly_past, residue_self, residue_same}

-- the largest product of two words, and a word more
pub word_product : {x y z : ℕ} → x < 2 ^ 32 → y < 2 ^ 32 → z < 2 ^ 32 → x + y * z < 2 ^ 64
word_product {x} {y} {z} hx hy hz =
    let h : y * z ≤ 4294967295 * 4294967295 = N.mul-le-mul {n₁ = y} {m₁ = z} {n₂ = 4294967295} {m₂ = 4294967295} (omega arith) (omega arith) in
    omega arith

pub ∂-word : (p : ℕ) (a : List ℕ) (k : ℕ) → times p (mk p (k + 1)) (mk p (get_or a (k + 1) 0)) ≡ ∂ (Zmod p) (poly p a) k
∂-word p a k =
    ap (λ n. times p (mk p n) (mk p (get_or a n 0))) (add-one k)
    ∙ sym (∂-at (Zmod p) (poly p a) k ∙ ap₂ (times p) (cast_mk p (suc k)) (poly_at p a (suc k)))

pub ∂-past : (p : ℕ) (a : List ℕ) (k : ℕ) → 0 < p → length a ≤ k + 1 → Residue p (∂ (Zmod p) (poly p a) k) 0
∂-past p a k pos h =
    residue_same
    (sym (∂-at (Zmod p) (poly p a) k ∙ ap (λ x. times p (cast (Zmod p) (suc k)) x) (poly_past p a (suc k) (omega arith)) ∙ Ring.mul-zero (Zmod p) _))
    (residue_self 0 pos)

-- (− c) a = − (c a)
pub scaled_minus : (p c d : ℕ) (a : Seq (Zmod p)) → mk p d ≡ minus p (mk p c) → scaled (Zmod p) (mk p d) a ≡ negs (Zmod p) (scaled (Zmod p) (mk p c) a)
scaled_minus p c d a e = fun_ext λ i. ap (λ x. times p x (a i)) e ∙ Ring.neg-mul (Zmod p) (mk p c) (a i)

-- words that are equal at every place, and a place where they differ
pub same_words : (p : ℕ) (a b : List ℕ) (n : ℕ) → length a ≤ n → length b ≤ n → ((i : ℕ) → i < n → get_or a i 0 ≡ get_or b i 0) → poly p a ≡ poly p b
same_words p a b n ha hb h = fun_ext λ i. poly_at p a i ∙ ap (mk p) (go i (dec_lt i n)) ∙ sym (poly_at p b i)
  where
    go : (i : ℕ) → Dec (i < n) → get_or a i 0 ≡ get_or b i 0
    go i (yes l) = h i l
    go i (no l) = get_or-eq_default a 0 (omega arith) ∙ sym (get_or-eq_default b 0 (omega arith))

pub same_word : (p : ℕ) (a b : List ℕ) (i : ℕ) → Reduced p a → Reduced p b → poly p a ≡ poly p b → get_or a i 0 ≡ get_or b i 0
same_word p a b i ha hb e =
    mk_apart {p = p} (omega (arith, ha i)) _ _ (ha i) (hb i) (sym (poly_at p a i) ∙ ap (λ f. f i) e ∙ poly_at p b i)

-- where a has ended, c a adds nothing
pub add_nothing : (p c : ℕ) (out a : List ℕ) (i : ℕ) → length a ≤ i → poly p out i ≡ sums (Zmod p) (poly p out) (scaled (Zmod p) (mk p c) (poly p a)) i
add_nothing p c out a i h = sym (ap (λ x. plus p (poly p out i) (times p (mk p c) x)) (poly_past p a i h) ∙ ap (plus p (poly p out i))
    (Ring.mul-zero (Zmod p) _) ∙ plus_zero p _)

-- one turn of add_scaled
pub add_scaled_turn : (p c x v : ℕ) (out a : List ℕ) (k : ℕ) → x ≡ get_or out k 0 → Residue p (plus p (mk p x) (times p (mk p c) (mk p (get_or a k 0)))) v
    → Residue p (sums (Zmod p) (poly p out) (scaled (Zmod p) (mk p c) (poly p a)) k) v
add_scaled_turn p c x v out a k e h =
    residue_same (ap₂ (λ y z. plus p y (times p (mk p c) z)) (ap (mk p) e ∙ sym (poly_at p out k)) (sym (poly_at p a k))) h

-- one turn of scale
pub scale_turn : (p c x v : ℕ) (out : List ℕ) (k : ℕ) → x ≡ get_or out k 0 → Residue p (times p (mk p c) (mk p x)) v → Residue p
    (scaled (Zmod p) (mk p c) (poly p out) k) v
scale_turn p c x v out k e h = residue_same (ap (times p (mk p c)) (ap (mk p) e ∙ sym (poly_at p out k))) h

-- one turn of product, and of add_product
pub product_turn : (p v : ℕ) (a b : List ℕ) (k : ℕ) → Residue p (plus p (mk p 0) (conv (Zmod p) (poly p a) (poly p b) k)) v → Residue p
    (conv (Zmod p) (poly p a) (poly p b) k) v
product_turn p v a b k h = residue_same (Ring.zero-add (Zmod p) _) h

pub add_product_turn : (p x v : ℕ) (out a b : List ℕ) (k : ℕ) → x ≡ get_or out k 0 → Residue p (plus p (mk p x) (conv (Zmod p) (poly p a) (poly p b) k)) v
    → Residue p (sums (Zmod p) (poly p out) (conv (Zmod p) (poly p a) (poly p b)) k) v
add_product_turn p x v out a b k e h = residue_same (ap (λ y. plus p y (conv (Zmod p) (poly p a) (poly p b) k)) (ap (mk p) e ∙ sym (poly_at p out k))) h

-- `all` over the places of two slices, as many as the longer one has
pub same_all : (p : ℕ) (a b : List ℕ) (n : ℕ) (r : Bool) → length a ≤ n → length b ≤ n
    → MatchBool r (AllWithin (λ i. get_or a i 0 ≡ get_or b i 0) (range_with_len 0 n) 0 (length (range_with_len 0 n)))
    ((k : ℕ) × (k < length (range_with_len 0 n)) × HoldsAt (λ i. get_or a i 0 ≢ get_or b i 0) (range_with_len 0 n) k)
    → Reduced p a → Reduced p b → (r ≡ true → poly p a ≡ poly p b) × (poly p a ≡ poly p b → r ≡ true)
same_all p a b n true ha hb h low_a low_b = (
  λ e. same_words p a b n ha hb (λ i l. subst (λ j. get_or a j 0 ≡ get_or b j 0) (get_or-range_with_len 0 n i 0 l ∙ N.zero-add i)
      (h i 0 (omega arith) (omega (arith, length-range_with_len 0 n)))),
  λ e. refl,
)
same_all p a b n false ha hb h low_a low_b = (λ e. absurd (false≢true e), λ e. absurd (h.2 0 (same_word p a b _ low_a low_b e)))

-- the front of a on zeros: a, as far as there is room
pub copied : (a front rest : List ℕ) (size n j : ℕ) → n ≡ min (length a) size → front ≡ take n a → rest ≡ replicate size 0
    → j < length (front ++ drop n rest) → get_or (front ++ drop n rest) j 0 ≡ get_or a j 0
copied a front rest size n j en ef er inside = go (dec_lt j n)
  where
    long : length front ≡ n
    long = ap length ef ∙ length-take-le n a (omega arith)

    total : length (front ++ drop n rest) ≡ size
    total = length-append front (drop n rest) ∙ omega (arith, long, length-drop n rest, ap length er, length-replicate {A = ℕ} size 0)

    go : Dec (j < n) → get_or (front ++ drop n rest) j 0 ≡ get_or a j 0
    go (yes l) = get_or-append front (drop n rest) 0 j (omega (arith, long)) ∙ ap (λ xs. get_or xs j 0) ef ∙ get_or-take n a j 0 l
    go (no l) =
        let same : n + (j - n) ≡ j = omega arith in
        get_or-append_right front (drop n rest) n j 0 long (omega arith) ∙ get_or-drop n rest (j - n) 0 ∙ ap (λ k. get_or rest k 0) same
        ∙ ap (λ xs. get_or xs j 0) er ∙ get_or-replicate size j 0 0 (omega (arith, total)) ∙ sym (get_or-eq_default a 0 (omega (arith, total)))
