-- Lists of sheets: what is asked of two chains, one after the other, and of the whole; and the values of the composite, joined from the left.
-- Assumes nothing.
use Rattle.std.specs.Prelude.{◌≡◌, refl, List, [], ◌∷◌, ◌++◌, ℕ, ◌*◌}
use Rattle.std.proofs.Common.{sym, ◌∙◌, ap}
use Rattle.std.proofs.Math.Nat as Nat
use Rattle.questions.specs.Questions.{AllYes}
use Rattle.questions.specs.Joined.{all_all}
use Rattle.sheet.specs.declared.Values.{Values}
use Rattle.promises.specs.Asked.{check_asks, ComposableValues}
use Rattle.promises.specs.Answer.{composed}
use Rattle.promises.specs.Composed.{composed_associative}
use Rattle.chains.specs.Chain.{values, Each, each_asks, meet_asks, product, Permitted, Chain}

-- ── each

-- a sheet that passes check
abbrev pub Passes : List ℕ → Type 0
Passes ws = AllYes (check_asks ws)

module _ (P : List ℕ → Type 0) where
  pub each_front : (xs ys : List (List ℕ)) → Each P (xs ++ ys) → Each P xs
  each_front [] ys h = tt
  each_front (x ∷ xs) ys h = (h.0, each_front xs ys h.1)

  pub each_back : (xs ys : List (List ℕ)) → Each P (xs ++ ys) → Each P ys
  each_back [] ys h = h
  each_back (x ∷ xs) ys h = each_back xs ys h.1

  pub each_each : (xs ys : List (List ℕ)) → Each P xs → Each P ys → Each P (xs ++ ys)
  each_each [] ys h k = k
  each_each (x ∷ xs) ys h k = (h.0, each_each xs ys h.1 k)

pub each_map : {P Q : List ℕ → Type 0} (xs : List (List ℕ)) → ((ws : List ℕ) → P ws → Q ws) → Each P xs → Each Q xs
each_map [] f h = tt
each_map (x ∷ xs) f h = (f x h.0, each_map xs f h.1)

pub each_asked : (xs : List (List ℕ)) → Each Passes xs → AllYes (each_asks xs)
each_asked [] h = tt
each_asked (x ∷ xs) h = all_all (check_asks x) (each_asks xs) h.0 (each_asked xs h.1)

-- ── neighbours

-- they meet in turn
abbrev pub MeetInTurn : List (List ℕ) → Type 0
MeetInTurn xs = AllYes (meet_asks xs)

-- the last of x and the sheets behind it
abbrev pub last : List ℕ → List (List ℕ) → List ℕ
last x [] = x
last x (y ∷ ys) = last y ys

pub last-append : (x : List ℕ) (xs : List (List ℕ)) (y : List ℕ) (ys : List (List ℕ)) → last x (xs ++ y ∷ ys) ≡ last y ys
last-append x [] y ys = refl
last-append x (z ∷ zs) y ys = last-append z zs y ys

module _ (y : List ℕ) (ys : List (List ℕ)) where
  pub meet_meet : (x : List ℕ) (xs : List (List ℕ)) → MeetInTurn (x ∷ xs) → ComposableValues (values (last x xs)) (values y) → MeetInTurn (y ∷ ys)
      → MeetInTurn (x ∷ xs ++ y ∷ ys)
  meet_meet x [] h between k = (between, k)
  meet_meet x (z ∷ zs) h between k = (h.0, meet_meet z zs h.1 between k)

-- ── the product

pub product_append : (xs ys : List (List ℕ)) → product (xs ++ ys) ≡ product xs * product ys
product_append [] ys = sym (Nat.one-mul (product ys))
product_append (x ∷ xs) ys = ap (λ n. (values x).degree * n) (product_append xs ys) ∙ sym (Nat.mul_assoc (values x).degree (product xs) (product ys))

-- ── all that a chain is asked

pub chain : (xs : List (List ℕ)) → Each Passes xs → MeetInTurn xs → Permitted xs → Chain xs
chain xs passes meets permitted =
    all_all (each_asks xs ++ meet_asks xs) ((14, Permitted xs) ∷ []) (all_all (each_asks xs) (meet_asks xs) (each_asked xs passes) meets) (permitted, tt)

-- ── the values of the composite

-- v composed with the sheets in turn, from the left
unfoldable pub in_turn : Values → List (List ℕ) → Values
in_turn v [] = v
in_turn v (ws ∷ rest) = in_turn (composed v (values ws)) rest

turn_composed : (v w : Values) → v.p ≡ w.p → (xs : List (List ℕ)) → in_turn (composed v w) xs ≡ composed v (in_turn w xs)
unfolding in_turn
turn_composed v w e [] = refl
turn_composed v w e (x ∷ xs) =
    ap (λ u. in_turn u xs) (composed_associative v w (values x) e) ∙ turn_composed v (composed w (values x)) e xs

-- two chains after each other
pub turn_append : (v : Values) (xs : List (List ℕ)) (y : List ℕ) (ys : List (List ℕ)) → v.p ≡ (values y).p
    → in_turn v (xs ++ y ∷ ys) ≡ composed (in_turn v xs) (in_turn (values y) ys)
unfolding in_turn
turn_append v [] y ys e = turn_composed v (values y) e ys
turn_append v (x ∷ xs) y ys e = turn_append (composed v (values x)) xs y ys e
