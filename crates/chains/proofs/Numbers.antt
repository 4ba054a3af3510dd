-- The number with which a way is refused is that of a question of the chain that is answered with no; so a chain is refused in no way.
-- Assumes nothing.
use Rattle.std.specs.Prelude.{◌≡◌, refl, ◌⊎◌, List, [], ◌∷◌, ◌++◌, ℕ, zero, suc, ◌*◌, ◌≤◌, length, take, Result, Ok, Err}
use Rattle.std.proofs.Common.{sym, ◌∙◌, ap, ap₂, subst, subst₂, inl, inr, append-nil, append_assoc, arith}
use Rattle.std.proofs.Math.Nat as Nat
use Rattle.questions.specs.Questions.{Questions, AllYes, FirstNo, not_both}
use Rattle.questions.specs.Joined.{no_split}
use Rattle.questions.specs.SomeNo.{SomeNo, first_some, some_front, some_back}
use Rattle.questions.specs.Answers.{result, refused, apart}
use Rattle.sheet.specs.Asked.{DegreeAllowed}
use Rattle.questions.specs.Number.{number}
use Rattle.questions.specs.declared.refusal.Refusal.{Refusal}
use Rattle.promises.specs.Asked.{Room, check_asks, join_asks, compose_asks, ComposableValues, ProductAllowed}
use Rattle.promises.specs.Answer.{ComposeRight}
use Rattle.chains.specs.Chain.{values, each_asks, meet_asks, product, Each, Permitted, chain_asks}
use Rattle.chains.specs.Brackets.{wrote, Brackets, sheet, both, sheets, Way, given, called, left_refused, right_refused}
use Rattle.chains.proofs.Lists.{each_front, each_back, last, product_append}
use Rattle.chains.proofs.Pairs.{values_in, Pairs, first, rest, sheets_are, degree_is, domain, to_parts, pairs_meet}
use Rattle.chains.proofs.Calls.{way_pairs, way_passes}

-- ── of a list, with other sheets before and behind

each_no : (k : ℕ) (xs : List (List ℕ)) (ws : List ℕ) (ys : List (List ℕ)) → SomeNo (check_asks ws) k → SomeNo (each_asks (xs ++ ws ∷ ys)) k
each_no k [] ws ys h = some_front (check_asks ws) (each_asks ys) k h
each_no k (x ∷ xs) ws ys h = some_back (check_asks x) (each_asks (xs ++ ws ∷ ys)) k (each_no k xs ws ys h)

meet_no : (x : List ℕ) (xs : List (List ℕ)) (y : List ℕ) (ys : List (List ℕ)) → (ComposableValues (values (last x xs)) (values y) → ⊥)
    → SomeNo (meet_asks (x ∷ xs ++ y ∷ ys)) 13
meet_no x [] y ys not = inl (refl, not)
meet_no x (z ∷ zs) y ys not = inr (meet_no z zs y ys not)

meet_later : (k : ℕ) (xs : List (List ℕ)) (y : List ℕ) (ys : List (List ℕ)) → SomeNo (meet_asks (y ∷ ys)) k → SomeNo (meet_asks (xs ++ y ∷ ys)) k
meet_later k [] y ys h = h
meet_later k (x ∷ []) y ys h = inr h
meet_later k (x ∷ z ∷ zs) y ys h = inr (meet_later k (z ∷ zs) y ys h)

-- factors of a number that is not 0
factor_positive : (a b : ℕ) → 1 ≤ a * b → 1 ≤ b
factor_positive a zero h = let z : a * zero ≡ 0 = Nat.mul-zero a in omega arith
factor_positive a (suc b) h = omega arith

factor_most : (a b : ℕ) → 1 ≤ a * b → b ≤ a * b
factor_most zero b h = let z : zero * b ≡ 0 = Nat.zero-mul b in omega arith
factor_most (suc a) b h = omega (arith, Nat.suc-mul a b)

-- a part's product is a factor of the whole one
product_part : (xs ys zs : List (List ℕ)) → 1 ≤ product (xs ++ (ys ++ zs)) → product ys ≤ product (xs ++ (ys ++ zs))
product_part xs ys zs h =
    let outer : product (xs ++ (ys ++ zs)) ≡ product xs * product (ys ++ zs) = product_append xs (ys ++ zs) in
    let inner : product (ys ++ zs) ≡ product zs * product ys = product_append ys zs ∙ Nat.mul_comm (product ys) (product zs) in
    let positive : 1 ≤ product (ys ++ zs) = factor_positive (product xs) (product (ys ++ zs)) (omega arith) in
    let most : product (ys ++ zs) ≤ product xs * product (ys ++ zs) = factor_most (product xs) (product (ys ++ zs)) (omega arith) in
    omega (arith, factor_most (product zs) (product ys) (omega arith))

-- ── of a way

-- a question of the chain is answered with no: of a sheet, of two neighbours, of the product
module _ (k : ℕ) (xs : List (List ℕ)) where
  by_sheet : SomeNo (each_asks xs) k → SomeNo (chain_asks xs) k
  by_sheet h = some_front (each_asks xs ++ meet_asks xs) ((14, Permitted xs) ∷ []) k (some_front (each_asks xs) (meet_asks xs) k h)

  by_neighbours : SomeNo (meet_asks xs) k → SomeNo (chain_asks xs) k
  by_neighbours h = some_front (each_asks xs ++ meet_asks xs) ((14, Permitted xs) ∷ []) k (some_back (each_asks xs) (meet_asks xs) k h)

by_product : (xs : List (List ℕ)) → (Permitted xs → ⊥) → SomeNo (chain_asks xs) 14
by_product xs not = some_back (each_asks xs ++ meet_asks xs) ((14, Permitted xs) ∷ []) 14 (inl (refl, not))

-- what a part gave does not pass: then it is a sheet of the chain
part_no : (t : Brackets) (ws : List ℕ) (k : ℕ) (xs ys : List (List ℕ)) → Way t (result ws) → FirstNo (check_asks ws) k
    → SomeNo (each_asks (xs ++ (sheets t ++ ys))) k
part_no (sheet us) ws k xs ys given not = each_no k xs ws ys (first_some (check_asks ws) k not)
part_no (both s t) ws k xs ys way not = absurd (not_both (check_asks ws) k (way_passes s t ws way) not)

-- two parts that pass, between other sheets
module _ (s t : Brackets) (xs ys : List (List ℕ)) (a : Pairs s) where
  abbrev whole : List (List ℕ)
  whole = xs ++ (sheets s ++ sheets t ++ ys)

  neighbours_no : (ComposableValues (values_in s) (values_in t) → ⊥) → SomeNo (chain_asks whole) 13
  neighbours_no not =
      let e : first s ∷ rest s ++ first t ∷ (rest t ++ ys) ≡ sheets s ++ sheets t ++ ys =
      ap₂ ◌++◌ (sym (sheets_are s)) (ap (λ (zs : List (List ℕ)). zs ++ ys) (sym (sheets_are t))) ∙ sym (append_assoc (sheets s) (sheets t) ys) in
      subst (λ zs. SomeNo (chain_asks (xs ++ zs)) 13) e
      (by_neighbours 13 (xs ++ (first s ∷ rest s ++ first t ∷ (rest t ++ ys)))
      (meet_later 13 xs (first s) (rest s ++ first t ∷ (rest t ++ ys))
      (meet_no (first s) (rest s) (first t) (rest t ++ ys) (λ m. not (to_parts s t (pairs_meet s a) m)))))

  product_no : (ProductAllowed (values_in s) (values_in t) → ⊥) → SomeNo (chain_asks whole) 14
  product_no not = by_product whole λ permitted.
      let back : Each (λ ws. DegreeAllowed (product whole) (values ws).p) (sheets s ++ sheets t ++ ys) =
      each_back (λ ws. DegreeAllowed (product whole) (values ws).p) xs (sheets s ++ sheets t ++ ys) permitted in
      let here : Each (λ ws. DegreeAllowed (product whole) (values ws).p) (first (both s t) ∷ rest (both s t)) =
      subst (Each (λ ws. DegreeAllowed (product whole) (values ws).p)) (sheets_are (both s t))
      (each_front (λ ws. DegreeAllowed (product whole) (values ws).p) (sheets s ++ sheets t) ys back) in
      let allowed : DegreeAllowed (product whole) (values (first s)).p = here.0 in
      let least : 3 ≤ product whole = allowed.least in
      let part : product (sheets s ++ sheets t) ≤ product whole = product_part xs (sheets s ++ sheets t) ys (omega arith) in
      let e : product (sheets s ++ sheets t) ≡ (values_in s).degree * (values_in t).degree = degree_is (both s t) in
      not (record { most = omega (arith, allowed.most); small = omega (arith, allowed.small, (domain s).0) })

-- the parts' sheets, with those of the other part among the ones behind, or before
module _ (s t : Brackets) (xs ys : List (List ℕ)) where
  as_left : xs ++ (sheets s ++ (sheets t ++ ys)) ≡ xs ++ (sheets s ++ sheets t ++ ys)
  as_left = ap (λ (zs : List (List ℕ)). xs ++ zs) (sym (append_assoc (sheets s) (sheets t) ys))

  as_right : xs ++ sheets s ++ (sheets t ++ ys) ≡ xs ++ (sheets s ++ sheets t ++ ys)
  as_right = append_assoc xs (sheets s) (sheets t ++ ys) ∙ as_left

-- a call that is refused: by a sheet that does not pass, by 13 or by 14
module _ (s t : Brackets) (first second : List ℕ) (k : ℕ) (xs ys : List (List ℕ)) (a : Way s (result first)) (b : Way t (result second)) where
  abbrev No : Type 0
  No = SomeNo (chain_asks (xs ++ (sheets s ++ sheets t ++ ys))) k

  first_no : FirstNo (check_asks first) k → No
  first_no not =
      subst (λ zs. SomeNo (chain_asks zs) k) (as_left s t xs ys)
      (by_sheet k (xs ++ (sheets s ++ (sheets t ++ ys))) (part_no s first k xs (sheets t ++ ys) a not))

  second_no : FirstNo (check_asks second) k → No
  second_no not =
      subst (λ zs. SomeNo (chain_asks zs) k) (as_right s t xs ys)
      (by_sheet k (xs ++ sheets s ++ (sheets t ++ ys)) (part_no t second k (xs ++ sheets s) ys b not))

  join_no : AllYes (check_asks first) → AllYes (check_asks second) → FirstNo (join_asks (values first) (values second)) k → No
  join_no p q not =
      let left = way_pairs s first a p in
      go left.0 left.1 (way_pairs t second b q).1 not
    where
      go : Pairs s → values first ≡ values_in s → values second ≡ values_in t → FirstNo (join_asks (values first) (values second)) k → No
      go c e f (inl (is, not)) =
          subst (SomeNo (chain_asks (xs ++ (sheets s ++ sheets t ++ ys)))) (sym is)
          (neighbours_no s t xs ys c (λ m. not (subst₂ ComposableValues (sym e) (sym f) m)))
      go c e f (inr (_, inl (is, not))) =
          subst (SomeNo (chain_asks (xs ++ (sheets s ++ sheets t ++ ys)))) (sym is)
          (product_no s t xs ys c (λ m. not (subst₂ ProductAllowed (sym e) (sym f) m)))
      go c e f (inr (_, inr none)) = absurd none.1

  call_no : (room : ℕ) → Room room → FirstNo (compose_asks first second room) k → No
  call_no room enough (inl not) = absurd (not.1 enough)
  call_no room enough (inr (_, not)) = by_first (no_split (check_asks first) later k not)
    where
      later : Questions
      later = check_asks second ++ join_asks (values first) (values second)

      by_second : AllYes (check_asks first)
          → FirstNo (check_asks second) k ⊎ (AllYes (check_asks second) × FirstNo (join_asks (values first) (values second)) k) → No
      by_second p (inl h) = second_no h
      by_second p (inr h) = join_no p h.0 h.1

      by_first : FirstNo (check_asks first) k
          ⊎ (AllYes (check_asks first) × FirstNo (check_asks second ++ join_asks (values first) (values second)) k) → No
      by_first (inl h) = first_no h
      by_first (inr h) = by_second h.0 (no_split (check_asks second) (join_asks (values first) (values second)) k h.1)

-- The number of a way that is refused is that of a question which is answered with no.
refused_between : (t : Brackets) (k : ℕ) (xs ys : List (List ℕ)) → Way t (refused k) → SomeNo (chain_asks (xs ++ (sheets t ++ ys))) k
refused_between (sheet _) k xs ys way = elim way [ ]
refused_between (both s t) k xs ys (called {first = first} {second = second} a b call) = go call.answer call.right call.outcome
  where
    go : (r : Result ℕ Refusal) → ComposeRight first second call.before call.after r → wrote r call.after ≡ refused k
        → SomeNo (chain_asks (xs ++ (sheets s ++ sheets t ++ ys))) k
    go (Ok c) right e = absurd (apart (take c call.after) k e)
    go (Err q) right e =
        let same : number q ≡ k = cc in
        call_no s t first second k xs ys a b (length call.before) call.room
        (subst (FirstNo (compose_asks first second (length call.before))) same right.0)
refused_between (both s t) k xs ys (left_refused a) =
    subst (λ zs. SomeNo (chain_asks zs) k) (as_left s t xs ys) (refused_between s k xs (sheets t ++ ys) a)
refused_between (both s t) k xs ys (right_refused b) =
    subst (λ zs. SomeNo (chain_asks zs) k) (as_right s t xs ys) (refused_between t k (xs ++ sheets s) ys b)

pub refused_no : (t : Brackets) (k : ℕ) → Way t (refused k) → SomeNo (chain_asks (sheets t)) k
refused_no t k way = subst (λ zs. SomeNo (chain_asks zs) k) (append-nil (sheets t)) (refused_between t k [] [] way)
