-- A question by its number: what it asks, that it is answered with yes where all are, and that it is the first no where those before it are answered with yes.
-- A question that joins a list elsewhere leaves what is said so as it is.
-- Assumes nothing.
use Rattle.std.specs.Prelude.{◌≡◌, refl, Bool, true, false, cond, not, [], ◌∷◌, ℕ, T, eqb}
use Rattle.std.proofs.lemmas.Bool.{false≢true}
use Rattle.std.proofs.Common.{inl, inr, T_not, eqb-true, eq-eqb}
use Rattle.questions.specs.Questions.{Questions, AllYes, FirstNo}

abbrev either : Bool → Type 0 → Type 0 → Type 0
either true A B = A
either false A B = B

-- what the question of number n asks; nothing where there is none
abbrev pub Asks : Questions → ℕ → Type 0
Asks [] n = Unit {0}
Asks (q ∷ qs) n = either (eqb n q.0) q.1 (Asks qs n)

-- that the questions before it are answered with yes
abbrev pub YesBefore : Questions → ℕ → Type 0
YesBefore [] n = Unit {0}
YesBefore (q ∷ qs) n = either (eqb n q.0) (Unit {0}) (q.1 × YesBefore qs n)

-- whether there is such a question
abbrev pub has : Questions → ℕ → Bool
has [] n = false
has (q ∷ qs) n = cond (eqb n q.0) true (has qs n)

pub yes_to : (qs : Questions) (n : ℕ) → AllYes qs → Asks qs n
yes_to [] n all = tt
yes_to (q ∷ qs) n all = go (eqb n q.0) (yes_to qs n all.1)
  where
    go : (t : Bool) → Asks qs n → either t q.1 (Asks qs n)
    go true later = all.0
    go false later = later

pub first_no : (qs : Questions) (n : ℕ) → T (has qs n) → YesBefore qs n → (Asks qs n → ⊥) → FirstNo qs n
first_no [] n t before not = absurd t
first_no (q ∷ qs) n t before not = go (eqb n q.0) refl (first_no qs n) t before not
  where
    go : (b : Bool) → eqb n q.0 ≡ b → (T (has qs n) → YesBefore qs n → (Asks qs n → ⊥) → FirstNo qs n)
        → T (cond b true (has qs n)) → either b (Unit {0}) (q.1 × YesBefore qs n) → (either b q.1 (Asks qs n) → ⊥) → FirstNo (q ∷ qs) n
    go true e later t before not = inl (eqb-true n q.0 e, not)
    go false e later t before not = inr (before.0, later t before.1 not)

-- ── from a refusal to its question

-- whether n is the number of one question alone
abbrev pub once : Questions → ℕ → Bool
once [] n = true
once (q ∷ qs) n = cond (eqb n q.0) (not (has qs n)) (once qs n)

no_has : (qs : Questions) (n : ℕ) → FirstNo qs n → T (has qs n)
no_has [] n h = absurd h
no_has (q ∷ qs) n (inl h) = found (eqb n q.0) (eq-eqb n q.0 h.0)
  where
    found : (b : Bool) → b ≡ true → T (cond b true (has qs n))
    found true e = tt
    found false e = absurd (false≢true e)
no_has (q ∷ qs) n (inr h) = go (eqb n q.0) (no_has qs n h.1)
  where
    go : (b : Bool) → T (has qs n) → T (cond b true (has qs n))
    go true t = tt
    go false t = t

-- those before it are answered with yes, and it with no
pub no_by : (qs : Questions) (n : ℕ) → T (once qs n) → FirstNo qs n → YesBefore qs n × (Asks qs n → ⊥)
no_by [] n t h = absurd h
no_by (q ∷ qs) n t (inl h) = go (eqb n q.0) (eq-eqb n q.0 h.0)
  where
    go : (b : Bool) → b ≡ true → either b (Unit {0}) (q.1 × YesBefore qs n) × (either b q.1 (Asks qs n) → ⊥)
    go true e = (tt, h.1)
    go false e = absurd (false≢true e)
no_by (q ∷ qs) n t (inr h) = go (eqb n q.0) (no_has qs n h.1) t (λ u. no_by qs n u h.1)
  where
    go : (b : Bool) → T (has qs n) → T (cond b (not (has qs n)) (once qs n)) → (T (once qs n) → YesBefore qs n × (Asks qs n → ⊥))
        → either b (Unit {0}) (q.1 × YesBefore qs n) × (either b q.1 (Asks qs n) → ⊥)
    go true there alone later = absurd (T_not (has qs n) alone there)
    go false there alone later = let r = later alone in ((h.0, r.0), r.1)
