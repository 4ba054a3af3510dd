-- Tests that the checker computes: several in one, equal lists, and lists of numbers below a bound.
-- Assumes nothing.
use Rattle.std.specs.Prelude.{◌≡◌, refl, Bool, true, false, not, List, [], ◌∷◌, ℕ, zero, suc, ◌<◌, T, eqb, ltb, length, get_or}
use Rattle.std.proofs.Common.{ap₂, subst, lt-ltb, eqb→eq, ltb→lt, arith}
use Rattle.ring.specs.Test.{both, both_left, both_right}

-- one test or another passes
abbrev pub one : Bool → Bool → Bool
one true b = true
one false b = b

pub one_of : (a b : Bool) {P : Type 0} → (T a → P) → (T b → P) → T (one a b) → P
one_of true b left right t = left tt
one_of false b left right t = right t

-- every test of a list passes
abbrev pub every : List Bool → Bool
every [] = true
every (b ∷ bs) = both b (every bs)

-- what each of them says, by its place
abbrev pub Every : List Bool → Type 0
Every bs = (i : ℕ) → T (get_or bs i true)

pub every_yes : (bs : List Bool) → T (every bs) → Every bs
every_yes [] t i = tt
every_yes (b ∷ bs) t zero = both_left b (every bs) t
every_yes (b ∷ bs) t (suc i) = every_yes bs (both_right b (every bs) t) i

-- two lists are equal
abbrev pub same_list : List ℕ → List ℕ → Bool
same_list [] [] = true
same_list [] (y ∷ ys) = false
same_list (x ∷ xs) [] = false
same_list (x ∷ xs) (y ∷ ys) = both (eqb x y) (same_list xs ys)

pub same_list_yes : (xs ys : List ℕ) → T (same_list xs ys) → xs ≡ ys
same_list_yes [] [] t = refl
same_list_yes [] (y ∷ ys) t = absurd t
same_list_yes (x ∷ xs) [] t = absurd t
same_list_yes (x ∷ xs) (y ∷ ys) t =
    ap₂ ◌∷◌ (eqb→eq x y (both_left (eqb x y) (same_list xs ys) t)) (same_list_yes xs ys (both_right (eqb x y) (same_list xs ys) t))

-- every number is below p; past the end a list reads 0
abbrev pub below : ℕ → List ℕ → Bool
below p [] = true
below p (x ∷ xs) = both (ltb x p) (below p xs)

pub below_yes : (p : ℕ) → 0 < p → (xs : List ℕ) → T (below p xs) → (i : ℕ) → get_or xs i 0 < p
below_yes p pos [] t i = pos
below_yes p pos (x ∷ xs) t zero = ltb→lt x p (both_left (ltb x p) (below p xs) t)
below_yes p pos (x ∷ xs) t (suc i) = below_yes p pos xs (both_right (ltb x p) (below p xs) t) i

-- numbers that are all below p pass, so where the test fails some number is not
below_all : (p : ℕ) (xs : List ℕ) → ((i : ℕ) → i < length xs → get_or xs i 0 < p) → below p xs ≡ true
below_all p [] small = refl
below_all p (x ∷ xs) small = ap₂ both (lt-ltb x p (small 0 (omega arith))) (below_all p xs (λ i l. small (suc i) (omega arith)))

pub below_no : (p : ℕ) (xs : List ℕ) → T (not (below p xs)) → ((i : ℕ) → i < length xs → get_or xs i 0 < p) → ⊥
below_no p xs t small = subst (λ b. T (not b)) (below_all p xs small) t
