-- A text at the front of a buffer, and how one text is put behind another.
-- Assumes nothing.
use Rattle.std.specs.Prelude.{◌≡◌, List, [], ◌∷◌, ◌++◌, ℕ, suc, ◌+◌, ◌<◌, ◌≤◌, length, get_or, set, take, drop}
use Rattle.std.proofs.Common.{sym, ◌∙◌, ap, ap₂, subst, append_assoc, append-nil, add-one, arith, length-append, length-drop, drop_of_length-le, take_at, take_all, drop_at, drop-cons, drop-drop}
use Rattle.std.proofs.lemmas.List.{set_at}
use Rattle.std.proofs.Math.Seq.{append_snoc}

-- the buffer holds the text, and behind it what stood there before
pub record Fills (text before after : List ℕ) (count : ℕ) : Type 0 where
  pub count_is : count ≡ length text
  pub bytes : after ≡ text ++ drop count before

module _ {text before after : List ℕ} {count : ℕ} (h : Fills text before after count) where
  pub fills_take : take count after ≡ text
  fills_take = ap (take count) h.bytes ∙ take_at text (drop count before) count (sym h.count_is)

  pub fills_drop : drop count after ≡ drop count before
  fills_drop = ap (drop count) h.bytes ∙ drop_at text (drop count before) count (sym h.count_is)

  pub fills_length : count ≤ length before → length after ≡ length before
  fills_length inside =
      ap length h.bytes ∙ length-append text (drop count before) ∙ omega (arith, h.count_is, length-drop count before)

  pub fills_as : {text' : List ℕ} {count' : ℕ} → text ≡ text' → count ≡ count' → Fills text' before after count'
  fills_as {text'} same alike =
      subst (λ n. Fills text' before after n) alike (subst (λ (l : List ℕ). Fills l before after count) same h)

  -- one more character
  pub fills_one : (v : ℕ) → count < length before → Fills (text ++ v ∷ []) before (set after count v) (count + 1)
  fills_one v inside = record {
    count_is = omega (arith, h.count_is, length-append text (v ∷ []));
    bytes =
        ap (λ (l : List ℕ). set l count v) (h.bytes ∙ ap (λ (l : List ℕ). text ++ l) (drop-cons before count 0 inside))
        ∙ set_at text (get_or before count 0) (drop (suc count) before) v count (sym h.count_is)
        ∙ sym (append_snoc text v (drop (suc count) before))
        ∙ ap (λ n. (text ++ v ∷ []) ++ drop n before) (sym (add-one count));
  }

  -- a text put into the rest of the buffer
  pub fills_more : {text' after' : List ℕ} {count' : ℕ} → Fills text' (drop count after) after' count'
      → Fills (text ++ text') before (take count after ++ after') (count + count')
  fills_more {text'} {after'} {count'} k = record {
    count_is = omega (arith, h.count_is, k.count_is, length-append text text');
    bytes =
        ap₂ ◌++◌ fills_take (k.bytes ∙ ap (λ (l : List ℕ). text' ++ drop count' l) fills_drop)
        ∙ ap (λ (l : List ℕ). text ++ (text' ++ l)) (drop-drop count' count before)
        ∙ sym (append_assoc text text' (drop (count + count') before));
  }

  -- the same where the rest was lent as a part of its k elements and came back
  pub fills_part : {text' part : List ℕ} {count' : ℕ} (k : ℕ) → length after ≤ count + k → Fills text' (take k (drop count after)) part count'
      → Fills (text ++ text') before (take count after ++ (part ++ drop k (drop count after))) (count + count')
  fills_part {text'} {part} {count'} k all h' =
      let short : length (drop count after) ≤ k = omega (arith, length-drop count after) in
      let back : part ++ drop k (drop count after) ≡ part = ap (λ (l : List ℕ). part ++ l) (drop_of_length-le (drop count after) short) ∙ append-nil part in
      subst (λ (l : List ℕ). Fills (text ++ text') before (take count after ++ l) (count + count')) (sym back)
      (fills_more (subst (λ (l : List ℕ). Fills text' l part count') (take_all k (drop count after) short) h'))
