-- Lists of kinds that rise: the words of a kind stand between those of smaller and those of greater kinds, so where a kind begins is told by how many
-- kinds are smaller. The kinds of each form rise.
-- Assumes nothing.
use Rattle.std.specs.Prelude.{◌≡◌, refl, Bool, true, false, cond, List, [], ◌∷◌, ◌++◌, ℕ, zero, suc, ◌+◌, ◌*◌, ◌≤◌, ◌<◌, eqb, ltb, length, get_or, replicate}
use Rattle.std.proofs.Common.{sym, ◌∙◌, ap, arith, not-suc-le-zero, le_of_suc-le-suc, eqb-true, ltb-true, ltb-false, lt-ltb, le-ltb}
use Rattle.std.proofs.lemmas.Bool.{false≢true, eqb-false}
use Rattle.sheet.specs.declared.Form.{Form}
use Rattle.sheet.specs.declared.Form.TheVariants.{Question, Certificate, Kernel}
use Rattle.sheet.specs.Form.{header, kinds_of, body, position, holds}
use Rattle.sheet.specs.Place.{place_of}

-- each is at least the one before it, and the first at least `low`
abbrev pub Rising : ℕ → List ℕ → Type 0
Rising low [] = Unit {0}
Rising low (x ∷ xs) = (low ≤ x) × Rising x xs

-- how many are below k
abbrev pub below : ℕ → List ℕ → ℕ
below k [] = 0
below k (x ∷ xs) = cond (ltb x k) (suc (below k xs)) (below k xs)

-- ── one more at the front

module _ (k x : ℕ) (xs : List ℕ) where
  pub below_less : x < k → below k (x ∷ xs) ≡ suc (below k xs)
  below_less l = rw (lt-ltb x k l)

  pub below_not : k ≤ x → below k (x ∷ xs) ≡ below k xs
  below_not l = rw (le-ltb x k l)

-- none of a list that begins at k is below k
pub below_none : (k low : ℕ) (xs : List ℕ) → k ≤ low → Rising low xs → below k xs ≡ 0
below_none k low [] l r = refl
below_none k low (x ∷ xs) l r = below_not k x xs (omega (arith, r.0)) ∙ below_none k x xs (omega (arith, r.0)) r.1

-- a kind that is held is not below the list's beginning
held_from : (k low : ℕ) (xs : List ℕ) → Rising low xs → holds k xs ≡ true → low ≤ k
held_from k low [] r e = absurd (false≢true e)
held_from k low (x ∷ xs) r e = go (eqb k x) refl e (held_from k x xs r.1)
  where
    go : (t : Bool) → eqb k x ≡ t → cond t true (holds k xs) ≡ true → (holds k xs ≡ true → x ≤ k) → low ≤ k
    go true q e later = omega (arith, r.0, eqb-true k x q)
    go false q e later = omega (arith, r.0, later e)

pub not_held : (k low : ℕ) (xs : List ℕ) → k < low → Rising low xs → holds k xs ≡ false
not_held k low xs l r = go (holds k xs) refl
  where
    go : (t : Bool) → holds k xs ≡ t → holds k xs ≡ false
    go true e = absurd (omega (arith, held_from k low xs r e))
    go false e = e

-- ── where a kind begins

pub begins : (k low : ℕ) (xs : List ℕ) → Rising low xs → holds k xs ≡ true → position k xs ≡ below k xs
begins k low [] r e = absurd (false≢true e)
begins k low (x ∷ xs) r e = go (eqb k x) refl e (begins k x xs r.1)
  where
    go : (t : Bool) → eqb k x ≡ t → cond t true (holds k xs) ≡ true → (holds k xs ≡ true → position k xs ≡ below k xs)
        → cond t 0 (suc (position k xs)) ≡ below k (x ∷ xs)
    go true q e later =
        let same : k ≡ x = eqb-true k x q in
        sym (below_not k x xs (omega arith) ∙ below_none k x xs (omega arith) r.1)
    go false q e later =
        let other : k ≡ x → ⊥ = eqb-false k x q in
        let from : x ≤ k = held_from k x xs r.1 e in
        ap suc (later e) ∙ sym (below_less k x xs (omega (arith, other)))

-- a kind that is not held has no words
pub absent : (k : ℕ) (xs : List ℕ) → holds k xs ≡ false → below (suc k) xs ≡ below k xs
absent k [] e = refl
absent k (x ∷ xs) e = go (eqb k x) refl e (absent k xs)
  where
    step : (k ≡ x → ⊥) → below (suc k) xs ≡ below k xs → (t : Bool) → ltb x k ≡ t → below (suc k) (x ∷ xs) ≡ below k (x ∷ xs)
    step other same true q = below_less (suc k) x xs (omega (arith, ltb-true x k q)) ∙ ap suc same ∙ sym (below_less k x xs (ltb-true x k q))
    step other same false q =
        below_not (suc k) x xs (omega (arith, other, ltb-false x k q)) ∙ same ∙ sym (below_not k x xs (ltb-false x k q))

    go : (t : Bool) → eqb k x ≡ t → cond t true (holds k xs) ≡ false → (holds k xs ≡ false → below (suc k) xs ≡ below k xs)
        → below (suc k) (x ∷ xs) ≡ below k (x ∷ xs)
    go true q e later = absurd (false≢true (sym e))
    go false q e later = step (eqb-false k x q) (later e) (ltb x k) refl

-- the words from where k begins to where the next kind begins are of kind k
pub kind_at : (k low i : ℕ) (xs : List ℕ) → Rising low xs → below k xs ≤ i → i < below (suc k) xs → get_or xs i 0 ≡ k
kind_at k low i [] r l m = absurd (not-suc-le-zero m)
kind_at k low i (x ∷ xs) r l m = go (ltb x k) refl (ltb x (suc k)) refl i l m (λ j. kind_at k x j xs r.1)
  where
    go : (s : Bool) → ltb x k ≡ s → (t : Bool) → ltb x (suc k) ≡ t → (i : ℕ) → cond s (suc (below k xs)) (below k xs) ≤ i
        → i < cond t (suc (below (suc k) xs)) (below (suc k) xs) → ((j : ℕ) → below k xs ≤ j → j < below (suc k) xs → get_or xs j 0 ≡ k)
        → get_or (x ∷ xs) i 0 ≡ k
    go true q true u zero l m later = absurd (not-suc-le-zero l)
    go true q true u (suc i) l m later = later i (le_of_suc-le-suc l) (le_of_suc-le-suc m)
    go true q false u i l m later = absurd (omega (arith, ltb-true x k q, ltb-false x (suc k) u))
    go false q true u zero l m later = omega (arith, ltb-false x k q, ltb-true x (suc k) u)
    go false q true u (suc i) l m later =
        later i (omega (arith, below_none k x xs (ltb-false x k q) r.1)) (le_of_suc-le-suc m)
    go false q false u i l m later = absurd (omega (arith, below_none (suc k) x xs (ltb-false x (suc k) u) r.1))

-- the words before where k begins are of smaller kinds
pub kind_before : (k low i : ℕ) (xs : List ℕ) → Rising low xs → i < below k xs → get_or xs i 0 < k
kind_before k low i [] r m = absurd (not-suc-le-zero m)
kind_before k low i (x ∷ xs) r m = go (ltb x k) refl i m (λ j. kind_before k x j xs r.1)
  where
    go : (t : Bool) → ltb x k ≡ t → (i : ℕ) → i < cond t (suc (below k xs)) (below k xs) → ((j : ℕ) → j < below k xs → get_or xs j 0 < k)
        → get_or (x ∷ xs) i 0 < k
    go true q zero m later = ltb-true x k q
    go true q (suc i) m later = later i (le_of_suc-le-suc m)
    go false q i m later = absurd (omega (arith, below_none k x xs (ltb-false x k q) r.1))

-- later kinds begin later
pub below_mono : (j k : ℕ) (xs : List ℕ) → j ≤ k → below j xs ≤ below k xs
below_mono j k [] l = omega arith
below_mono j k (x ∷ xs) l = go (ltb x j) refl (ltb x k) refl (below_mono j k xs l)
  where
    go : (s : Bool) → ltb x j ≡ s → (t : Bool) → ltb x k ≡ t → below j xs ≤ below k xs
        → cond s (suc (below j xs)) (below j xs) ≤ cond t (suc (below k xs)) (below k xs)
    go true q true u h = omega arith
    go true q false u h = absurd (omega (arith, ltb-true x j q, ltb-false x k u))
    go false q true u h = omega arith
    go false q false u h = h

-- ── the forms

rising_run : (low k n : ℕ) (xs : List ℕ) → low ≤ k → Rising k xs → Rising low xs → Rising low (replicate n k ++ xs)
rising_run low k zero xs l r s = s
rising_run low k (suc n) xs l r s = (l, rising_run k k n xs (omega arith) r r)

rising_from : (low high : ℕ) (xs : List ℕ) → low ≤ high → Rising high xs → Rising low xs
rising_from low high [] l r = tt
rising_from low high (x ∷ xs) l r = (omega (arith, r.0), r.1)

run : (low k n : ℕ) (xs : List ℕ) → low ≤ k → Rising k xs → Rising low (replicate n k ++ xs)
run low k n xs l r = rising_run low k n xs l r (rising_from low k xs l r)

-- the kinds of the body are those from 8 on
pub body_rises : (form : Form) (d : ℕ) → Rising 8 (body form d)
body_rises Question d = (omega arith, tt)
body_rises Certificate d = run 8 8 (d + 1) _ (omega arith) (run 8 9 (2 * d + 2) (10 ∷ 15 ∷ []) (omega arith) (omega arith, (omega arith, tt)))
body_rises Kernel d = run 8 8 (d + 1) (15 ∷ []) (omega arith) (omega arith, tt)

-- a list whose kinds are below 8 before one whose kinds are from 8 on
abbrev Small : ℕ → List ℕ → Type 0
Small low [] = low ≤ 8
Small low (x ∷ xs) = (low ≤ x) × (x < 8) × Small x xs

small_rises : (low : ℕ) (hs xs : List ℕ) → Small low hs → Rising 8 xs → Rising low (hs ++ xs)
small_rises low [] xs s r = rising_from low 8 xs s r
small_rises low (h ∷ hs) xs s r = (s.0, small_rises h hs xs s.2 r)

small_below : (low : ℕ) (hs xs : List ℕ) → Small low hs → Rising 8 xs → below 8 (hs ++ xs) ≡ length hs
small_below low [] xs s r = below_none 8 8 xs (omega arith) r
small_below low (h ∷ hs) xs s r = below_less 8 h (hs ++ xs) s.1 ∙ ap suc (small_below h hs xs s.2 r)

small_header : (form : Form) → Small 0 (header form)
small_header Question = search (arith)
small_header Certificate = search (arith)
small_header Kernel = search (arith)

module _ (form : Form) (d : ℕ) where
  pub kinds_rise : Rising 0 (kinds_of form d)
  kinds_rise = small_rises 0 (header form) (body form d) (small_header form) (body_rises form d)

  -- the first section begins after the header
  pub header_first : below 8 (kinds_of form d) ≡ length (header form)
  header_first = small_below 0 (header form) (body form d) (small_header form) (body_rises form d)

  -- the place of a kind, or where the next one begins
  pub place_from : (k next : ℕ) → next ≡ below (suc k) (kinds_of form d) → place_of form k d next ≡ below k (kinds_of form d)
  place_from k next e = go (holds k (kinds_of form d)) refl
    where
      go : (t : Bool) → holds k (kinds_of form d) ≡ t → cond t (position k (kinds_of form d)) next ≡ below k (kinds_of form d)
      go true h = begins k 0 (kinds_of form d) kinds_rise h
      go false h = e ∙ absent k (kinds_of form d) h
