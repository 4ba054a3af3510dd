-- The header's words: where each of them stands, and the number in it.
-- Assumes nothing.
use Rattle.std.specs.Prelude.{◌≡◌, refl, Bool, true, false, cond, List, [], ◌∷◌, ◌++◌, ℕ, suc, ◌<◌, eqb, length, get_or}
use Rattle.std.proofs.Common.{sym, ◌∙◌, ap, ap₂, arith}
use Rattle.std.proofs.lemmas.Bool.{false≢true}
use Rattle.std.proofs.Math.ListN.{get_or-eq_default}
use Rattle.sheet.specs.declared.Form.{Form}
use Rattle.sheet.specs.Word.{value_of}
use Rattle.sheet.specs.Form.{header, body, kinds_of, position, holds, entry}
use Rattle.sheet.specs.Place.{place_of}
use Rattle.sheet.specs.Kinds.{not_held, body_rises}

-- ── a kind in two lists after each other

module _ (k : ℕ) (ys : List ℕ) where
  holds_no : (xs : List ℕ) → holds k xs ≡ false → holds k (xs ++ ys) ≡ holds k ys
  holds_no [] e = refl
  holds_no (x ∷ xs) e = go (eqb k x) e (holds_no xs)
    where
      go : (t : Bool) → cond t true (holds k xs) ≡ false → (holds k xs ≡ false → holds k (xs ++ ys) ≡ holds k ys) → cond t true (holds k (xs ++ ys))
          ≡ holds k ys
      go true e h = absurd (false≢true (sym e))
      go false e h = h e

  holds_yes : (xs : List ℕ) → holds k xs ≡ true → holds k (xs ++ ys) ≡ true
  holds_yes [] e = absurd (false≢true e)
  holds_yes (x ∷ xs) e = go (eqb k x) e (holds_yes xs)
    where
      go : (t : Bool) → cond t true (holds k xs) ≡ true → (holds k xs ≡ true → holds k (xs ++ ys) ≡ true) → cond t true (holds k (xs ++ ys)) ≡ true
      go true e h = refl
      go false e h = h e

  position_yes : (xs : List ℕ) → holds k xs ≡ true → position k (xs ++ ys) ≡ position k xs
  position_yes [] e = absurd (false≢true e)
  position_yes (x ∷ xs) e = go (eqb k x) e (position_yes xs)
    where
      go : (t : Bool) → cond t true (holds k xs) ≡ true → (holds k xs ≡ true → position k (xs ++ ys) ≡ position k xs)
          → cond t 0 (suc (position k (xs ++ ys))) ≡ cond t 0 (suc (position k xs))
      go true e h = refl
      go false e h = ap suc (h e)

-- ── the kinds 1 to 7 stand in headers only

body_free : (form : Form) (d k : ℕ) → k < 8 → holds k (body form d) ≡ false
body_free form d k l = not_held k 8 (body form d) l (body_rises form d)

pub header_place : (form : Form) (k d none : ℕ) → k < 8 → place_of form k d none ≡ cond (holds k (header form)) (position k (header form)) none
header_place form k d none h = go (holds k (header form)) refl
  where
    go : (t : Bool) → holds k (header form) ≡ t → place_of form k d none ≡ cond (holds k (header form)) (position k (header form)) none
    go true e =
        ap₂ (λ (t : Bool) (n : ℕ). cond t n none) (holds_yes k (body form d) (header form) e ∙ sym e) (position_yes k (body form d) (header form) e)
    go false e =
        ap (λ (t : Bool). cond t (position k (kinds_of form d)) none) (holds_no k (body form d) (header form) e ∙ body_free form d k h)
        ∙ sym (ap (λ (t : Bool). cond t (position k (header form)) none) e)

-- ── the entries

-- past its end a sheet reads 0, and so does a word that the form has not
pub entry_at : (form : Form) (k : ℕ) (ws : List ℕ) → k < 8 → entry form k ws ≡ value_of (get_or ws (place_of form k 0 (length ws)) 0)
entry_at form k ws h =
    go (holds k (header form)) ∙ ap (λ n. value_of (get_or ws n 0)) (sym (header_place form k 0 (length ws) h))
  where
    go : (t : Bool)
        → cond t (value_of (get_or ws (position k (header form)) 0)) 0 ≡ value_of (get_or ws (cond t (position k (header form)) (length ws)) 0)
    go true = refl
    go false = let z : get_or ws (length ws) 0 ≡ 0 = get_or-eq_default ws 0 (omega arith) in sym (ap value_of z)
