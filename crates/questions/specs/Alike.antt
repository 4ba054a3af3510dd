-- Two lists of questions with the same numbers, each question answered alike in both where those before it are answered with yes.
-- Assumes nothing.
use Rattle.std.specs.Prelude.{◌≡◌, refl, [], ◌∷◌, ◌++◌, ℕ}
use Rattle.std.proofs.Common.{sym, ◌∙◌, inl, inr}
use Rattle.questions.specs.Questions.{Questions, AllYes, FirstNo}

abbrev pub Alike : Questions → Questions → Type 0
Alike [] [] = Unit {0}
Alike [] (r ∷ rs) = ⊥
Alike (q ∷ qs) [] = ⊥
Alike (q ∷ qs) (r ∷ rs) = (q.0 ≡ r.0) × (q.1 → r.1) × (r.1 → q.1) × (q.1 → Alike qs rs)

pub alike_sym : (qs rs : Questions) → Alike qs rs → Alike rs qs
alike_sym [] [] a = a
alike_sym [] (r ∷ rs) a = a
alike_sym (q ∷ qs) [] a = a
alike_sym (q ∷ qs) (r ∷ rs) a = (sym a.0, a.2, a.1, λ h. alike_sym qs rs (a.3 (a.2 h)))

pub alike_no : (qs rs : Questions) (n : ℕ) → Alike qs rs → FirstNo qs n → FirstNo rs n
alike_no [] rs n a h = absurd h
alike_no (q ∷ qs) [] n a h = absurd a
alike_no (q ∷ qs) (r ∷ rs) n a (inl h) = inl (h.0 ∙ a.0, λ y. h.1 (a.2 y))
alike_no (q ∷ qs) (r ∷ rs) n a (inr h) = inr (a.1 h.0, alike_no qs rs n (a.3 h.0) h.1)

pub alike_yes : (qs rs : Questions) → Alike qs rs → AllYes qs → AllYes rs
alike_yes [] [] a h = h
alike_yes [] (r ∷ rs) a h = absurd a
alike_yes (q ∷ qs) [] a h = absurd a
alike_yes (q ∷ qs) (r ∷ rs) a h = (a.1 h.0, alike_yes qs rs (a.3 h.0) h.1)

pub alike_refl : (qs : Questions) → Alike qs qs
alike_refl [] = tt
alike_refl (q ∷ qs) = (refl, λ h. h, λ h. h, λ _. alike_refl qs)

-- two after two, of which the later ones need be alike only where the earlier ones are answered with yes
pub alike_joined : (qs rs qs' rs' : Questions) → Alike qs rs → (AllYes qs → Alike qs' rs') → Alike (qs ++ qs') (rs ++ rs')
alike_joined [] [] qs' rs' a later = later tt
alike_joined [] (r ∷ rs) qs' rs' a later = absurd a
alike_joined (q ∷ qs) [] qs' rs' a later = absurd a
alike_joined (q ∷ qs) (r ∷ rs) qs' rs' a later = (a.0, a.1, a.2, λ h. alike_joined qs rs qs' rs' (a.3 h) (λ all. later (h, all)))
