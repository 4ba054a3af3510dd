-- Some question is answered with no, the first one or a later one.
-- Assumes nothing.
use Rattle.std.specs.Prelude.{◌≡◌, ◌⊎◌, [], ◌∷◌, ◌++◌, ℕ}
use Rattle.std.proofs.Common.{inl, inr}
use Rattle.questions.specs.Questions.{Questions, AllYes, FirstNo}

-- a question of number n is answered with no
abbrev pub SomeNo : Questions → ℕ → Type 0
SomeNo [] n = ⊥
SomeNo (q ∷ qs) n = ((n ≡ q.0) × (q.1 → ⊥)) ⊎ SomeNo qs n

-- as the first no is
pub first_some : (qs : Questions) (n : ℕ) → FirstNo qs n → SomeNo qs n
first_some [] n h = h
first_some (q ∷ qs) n (inl h) = inl h
first_some (q ∷ qs) n (inr h) = inr (first_some qs n h.1)

-- then not all are answered with yes
pub not-all : (qs : Questions) (n : ℕ) → SomeNo qs n → AllYes qs → ⊥
not-all [] n h all = h
not-all (q ∷ qs) n (inl h) all = h.1 all.0
not-all (q ∷ qs) n (inr h) all = not-all qs n h all.1

-- ── lists after each other

pub some_front : (qs rs : Questions) (n : ℕ) → SomeNo qs n → SomeNo (qs ++ rs) n
some_front [] rs n h = absurd h
some_front (q ∷ qs) rs n (inl h) = inl h
some_front (q ∷ qs) rs n (inr h) = inr (some_front qs rs n h)

pub some_back : (qs rs : Questions) (n : ℕ) → SomeNo rs n → SomeNo (qs ++ rs) n
some_back [] rs n h = h
some_back (q ∷ qs) rs n h = inr (some_back qs rs n h)
