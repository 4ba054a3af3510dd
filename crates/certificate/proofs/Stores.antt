-- Loops that store words one a turn, and what they leave.
-- Assumes nothing.
use mathlib.Core.Path.{◌≡◌, sym, ◌∙◌, ap, ap₂}
use mathlib.Core.List.{List, [], ◌∷◌, ◌++◌, map}
use Prim.Native.Nat.{ℕ, suc, ◌+◌, ◌<◌}
use native.Mathlib.Numerals.{add-one}
use native.Mathlib.Omega.{arith}
use lib.ListN.{length, get_or, set, take, drop, length-append, length-map, get_or-map}
use lib.Seq.{take_at, drop_at, take_all, set_at, drop-cons, append_snoc, length-take-le, take-suc, paste, paste-suc, drop-drop}
use Rattle.sheet.specs.Word.{word}

-- the front of `out` is replaced by X
abbrev pub Front : List ℕ → List ℕ → List ℕ → Type 0
Front before X after = after ≡ X ++ drop (length X) before

-- one word more
pub front_more : (src out : List ℕ) (i : ℕ) → i < length src → i < length out
    → set (take i src ++ drop i out) i (get_or src i 0) ≡ take (i + 1) src ++ drop (i + 1) out
front_more src out i h k =
    ap (λ (l : List ℕ). set (take i src ++ l) i (get_or src i 0)) (drop-cons out i 0 k)
    ∙ set_at (take i src) (get_or out i 0) (drop (suc i) out) (get_or src i 0) i (length-take-le i src (omega arith))
    ∙ sym (append_snoc (take i src) (get_or src i 0) (drop (suc i) out))
    ∙ ap (λ (l : List ℕ). l ++ drop (suc i) out) (sym (take-suc src i 0 h))
    ∙ ap (λ (n : ℕ). take n src ++ drop n out) (sym (add-one i))

-- a part pasted where the front ends
pub front_paste : (before X ys : List ℕ) {out after : List ℕ} (at n : ℕ) → n ≡ length ys → at ≡ length X → Front before X out
    → after ≡ paste out at ys n → Front before (X ++ ys) after
front_paste before X ys {out} {after} at n all e h put =
    put
    ∙ ap₂ (λ (a b : List ℕ). a ++ take n ys ++ b)
    (ap (take at) h ∙ take_at X (drop (length X) before) at (sym e))
    (ap (drop (at + n)) h ∙ sym (drop-drop n at (X ++ drop (length X) before)) ∙ ap (drop n) (drop_at X (drop (length X) before) at (sym e))
    ∙ drop-drop n (length X) before)
    ∙ ap₂ (λ (a b : List ℕ). X ++ a ++ b) (take_all n ys (omega arith)) (ap (λ k. drop k before) (ap (λ m. length X + m) all ∙ sym (length-append X ys)))

pub front_one : (before X : List ℕ) {out : List ℕ} (at w : ℕ) → at ≡ length X → at < length before → Front before X out → Front before (X ++ w ∷ [])
    (set out at w)
front_one before X {out} at w e l h =
    ap (λ (o : List ℕ). set o at w) (h ∙ ap (λ (r : List ℕ). X ++ r) (drop-cons before (length X) 0 (omega arith)))
    ∙ set_at X (get_or before (length X) 0) (drop (suc (length X)) before) w at (sym e)
    ∙ sym (append_snoc X w (drop (suc (length X)) before))
    ∙ ap (λ n. X ++ (w ∷ []) ++ drop n before) (sym (length-append X (w ∷ []) ∙ add-one (length X)))

pub section_more : (k : ℕ) (xs : List ℕ) (from : ℕ) (out : List ℕ) (i : ℕ) → from + i < length out → i < length xs
    → set (paste out from (map (word k) xs) i) (from + i) (word k (get_or xs i 0)) ≡ paste out from (map (word k) xs) (i + 1)
section_more k xs from out i h l =
    ap (λ w. set (paste out from (map (word k) xs) i) (from + i) w) (sym (get_or-map (word k) xs i 0))
    ∙ paste-suc out from (map (word k) xs) i (word k 0) h (omega (arith, length-map xs (word k)))
    ∙ ap (paste out from (map (word k) xs)) (sym (add-one i))
