-- Question 2 kind by kind: the header has these words, each where the form has it.
-- Assumes nothing.
use Rattle.std.specs.Prelude.{◌≡◌, ℕ, zero, suc, ◌<◌, ◌≤◌, Bool, true, false, cond, T, ◌↔◌, List, [], ◌∷◌, map, length, take, drop, ◌==◌, ◌≢◌, nat_lt, slice_index, slice_index_or, refl}
use Rattle.std.proofs.Common.{sym, ◌∙◌, ap₂, not-suc-le-zero, le_of_suc-le-suc, arith, eqb-true, ltb→lt}
use Rattle.std.proofs.Math.Path.{ap}
use Rattle.std.proofs.lemmas.Bool.{false≢true}
use Rattle.std.proofs.Math.Dec.{eqb→eq}
use Rattle.sheet.specs.declared.Form.{Form}
use Rattle.sheet.specs.declared.Form.TheVariants.{Question, Certificate, Kernel}
use Rattle.sheet.specs.Word.{kind_of}
use Rattle.sheet.specs.Form.{header, position, holds}
use Rattle.sheet.specs.Place.{place_of}
use Rattle.sheet.specs.Entries.{header_place}
use Rattle.sheet.specs.Asked.{Asked2}
use Rattle.sheet.specs.Table.{at, every, both, both_left, both_right, T_true}
use Rattle.reading.specs.Leaf.{Stands}

-- ── a kind's word is in the list, where `position` says

module _ (k : ℕ) where
  pub position_inside : (xs : List ℕ) → holds k xs ≡ true → position k xs < length xs
  position_inside [] e = absurd (false≢true e)
  position_inside (x ∷ xs) e = go (k == x) e (position_inside xs)
    where
      go : (t : Bool) → cond t true (holds k xs) ≡ true → (holds k xs ≡ true → position k xs < length xs) → cond t 0 (suc (position k xs)) < suc (length xs)
      go true e h = omega arith
      go false e h = let l : position k xs < length xs = h e in omega arith

  pub position_kind : (xs : List ℕ) → holds k xs ≡ true → slice_index xs (position k xs) ≡ k
  position_kind [] e = absurd (false≢true e)
  position_kind (x ∷ xs) e = go (k == x) refl e (position_kind xs)
    where
      go : (t : Bool) → (k == x) ≡ t → cond t true (holds k xs) ≡ true → (holds k xs ≡ true → slice_index xs (position k xs) ≡ k)
          → slice_index (x ∷ xs) (cond t 0 (suc (position k xs))) ≡ k
      go true q e h = sym (eqb-true k x q)
      go false q e h = h e

pub short_header : (form : Form) → length (header form) ≤ 7
short_header Question = omega arith
short_header Certificate = omega arith
short_header Kernel = omega arith

-- ── question 2, kind by kind

module _ (k : ℕ) where
  pub place_no : (form : Form) → k < 8 → place_of form k 0 255 ≡ 255 → holds k (header form) ≢ true
  place_no form h e t =
      let i : position k (header form) < length (header form) = position_inside k (header form) t in
      let q : place_of form k 0 255 ≡ position k (header form) = header_place form k 0 255 h ∙ ap (λ (t : Bool). cond t (position k (header form)) 255) t in
      omega (arith, short_header form)

  pub place_yes : (form : Form) → k < 8 → (place_of form k 0 255 ≢ 255) → (holds k (header form) ≡ true) × (place_of form k 0 255 ≡ position k (header form))
  place_yes form h n = go (holds k (header form)) refl
    where
      go : (t : Bool) → holds k (header form) ≡ t → (holds k (header form) ≡ true) × (place_of form k 0 255 ≡ position k (header form))
      go true e = (e, header_place form k 0 255 h ∙ ap (λ (t : Bool). cond t (position k (header form)) 255) e)
      go false e = absurd (n (header_place form k 0 255 h ∙ ap (λ (t : Bool). cond t (position k (header form)) 255) e))

  pub stands_absent : (form : Form) (ws : List ℕ) → k < 8 → place_of form k 0 255 ≡ 255 → Stands form k ws
  unfolding Stands
  stands_absent form ws h e t = absurd (place_no form h e t)

  pub stands_short : (form : Form) (ws : List ℕ) → k < 8 → (place_of form k 0 255 ≢ 255) → length ws ≤ place_of form k 0 255 → Stands form k ws → ⊥
  unfolding Stands
  stands_short form ws h n l s =
      let y = place_yes form h n in
      let i : position k (header form) < length ws = (s y.0).0 in
      omega (arith, y.1)

  pub stands_there : (form : Form) (ws : List ℕ) → k < 8 → (place_of form k 0 255 ≢ 255) → place_of form k 0 255 < length ws
      → (kind_of (slice_index ws (place_of form k 0 255)) ≡ k) ↔ Stands form k ws
  unfolding Stands
  stands_there form ws h n l =
      let y = place_yes form h n in (
        λ e t. (omega (arith, y.1), ap (λ n. kind_of (slice_index ws n)) (sym y.1) ∙ e),
        λ s. ap (λ n. kind_of (slice_index ws n)) y.1 ∙ (s y.0).1,
      )

-- the first words of a list have these kinds
in_order : (hs ws : List ℕ) → ((i : ℕ) → i < length hs → (i < length ws) × (kind_of (slice_index ws i) ≡ slice_index hs i)) → map kind_of (take (length hs) ws) ≡ hs
in_order [] ws h = refl
in_order (k ∷ hs) [] h = absurd (not-suc-le-zero (h 0 (omega arith)).0)
in_order (k ∷ hs) (w ∷ ws) h =
    ap₂ ◌∷◌ (h 0 (omega arith)).1 (in_order hs ws λ i l. (le_of_suc-le-suc (h (suc i) (omega arith)).0, (h (suc i) (omega arith)).1))

from_order : (hs ws : List ℕ) → map kind_of (take (length hs) ws) ≡ hs → (i : ℕ) → i < length hs → (i < length ws) × (kind_of (slice_index ws i) ≡ slice_index hs i)
from_order [] ws e i l = absurd (not-suc-le-zero l)
from_order (k ∷ hs) [] e i l = absurd (nil-cons e)
  where
    nil-cons : ◌≡◌ {A = List ℕ} [] (k ∷ hs) → ⊥
    nil-cons e = let z : ◌≡◌ {A = ℕ} 0 (suc (length hs)) = ap length e in omega arith
from_order (k ∷ hs) (w ∷ ws) e zero l = (omega arith, ap (λ (xs : List ℕ). slice_index xs 0) e)
from_order (k ∷ hs) (w ∷ ws) e (suc i) l =
    let r = from_order hs ws (ap (λ (xs : List ℕ). drop 1 xs) e) i (le_of_suc-le-suc l) in
    (omega (arith, r.0), r.1)

-- each word of a header has its own kind, from 1 to 7
abbrev own : List ℕ → ℕ → Bool
own hs i = both (position (slice_index hs i) hs == i) (both (holds (slice_index hs i) hs) (both (nat_lt 0 (slice_index hs i)) (nat_lt (slice_index hs i) 8)))

all_own : (form : Form) → T (every (own (header form)) (length (header form)))
all_own Question = tt
all_own Certificate = tt
all_own Kernel = tt

module _ (form : Form) (ws : List ℕ) where
  pub asked2_stands : Asked2 form ws → (k : ℕ) → Stands form k ws
  unfolding Asked2 Stands
  asked2_stands e k t =
      let r = from_order (header form) ws e (position k (header form)) (position_inside k (header form) t) in
      (r.0, r.1 ∙ position_kind k (header form) t)

  pub stands_asked2 : ((k : ℕ) → 1 ≤ k → k < 8 → Stands form k ws) → Asked2 form ws
  unfolding Asked2 Stands
  stands_asked2 h = in_order (header form) ws λ i l.
      let hs = header form in
      let k = slice_index_or hs i 0 in
      let t = at (own hs) (length hs) (all_own form) i l in
      let t1 = both_right (position k hs == i) _ t in
      let t2 = both_right (holds k hs) _ t1 in
      let e : position k hs ≡ i = eqb→eq (position k hs) i (both_left (position k hs == i) _ t) in
      let r = h k (ltb→lt 0 k (both_left (nat_lt 0 k) (nat_lt k 8) t2)) (ltb→lt k 8 (both_right (nat_lt 0 k) (nat_lt k 8) t2))
      (T_true (holds k hs) (both_left (holds k hs) _ t1)) in
      (omega (arith, r.0), ap (λ n. kind_of (slice_index ws n)) (sym e) ∙ r.1)
