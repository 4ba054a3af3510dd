-- Lists of questions after each other.
-- Assumes nothing.
use Rattle.std.specs.Prelude.{◌⊎◌, [], ◌∷◌, ◌++◌, ℕ}
use Rattle.std.proofs.Common.{inl, inr}
use Rattle.questions.specs.Questions.{Questions, AllYes, FirstNo}

pub no_before : (qs rs : Questions) (n : ℕ) → FirstNo qs n → FirstNo (qs ++ rs) n
no_before [] rs n h = absurd h
no_before (q ∷ qs) rs n (inl h) = inl h
no_before (q ∷ qs) rs n (inr h) = inr (h.0, no_before qs rs n h.1)

pub no_after : (qs rs : Questions) (n : ℕ) → AllYes qs → FirstNo rs n → FirstNo (qs ++ rs) n
no_after [] rs n all h = h
no_after (q ∷ qs) rs n all h = inr (all.0, no_after qs rs n all.1 h)

pub all_all : (qs rs : Questions) → AllYes qs → AllYes rs → AllYes (qs ++ rs)
all_all [] rs all all' = all'
all_all (q ∷ qs) rs all all' = (all.0, all_all qs rs all.1 all')

pub all_front : (qs rs : Questions) → AllYes (qs ++ rs) → AllYes qs
all_front [] rs all = tt
all_front (q ∷ qs) rs all = (all.0, all_front qs rs all.1)

pub all_back : (qs rs : Questions) → AllYes (qs ++ rs) → AllYes rs
all_back [] rs all = all
all_back (q ∷ qs) rs all = all_back qs rs all.1

-- the first no is in the first list, or in the second after a first one of yes
pub no_split : (qs rs : Questions) (n : ℕ) → FirstNo (qs ++ rs) n → FirstNo qs n ⊎ (AllYes qs × FirstNo rs n)
no_split [] rs n h = inr (tt, h)
no_split (q ∷ qs) rs n (inl h) = inl (inl h)
no_split (q ∷ qs) rs n (inr h) = further (no_split qs rs n h.1)
  where
    further : FirstNo qs n ⊎ (AllYes qs × FirstNo rs n) → FirstNo (q ∷ qs) n ⊎ (AllYes (q ∷ qs) × FirstNo rs n)
    further (inl k) = inl (inr (h.0, k))
    further (inr k) = inr ((h.0, k.0), k.1)
