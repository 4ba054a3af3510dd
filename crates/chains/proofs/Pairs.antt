-- What has to hold of each pair of parts that the brackets compose: 13 and 14 of the values that the parts have. Where it holds, the sheets are a chain, and
-- the values of the whole do not depend on the brackets.
-- Assumes nothing.
use Rattle.std.specs.Prelude.{◌≡◌, refl, List, [], ◌∷◌, ◌++◌, ℕ, ◌*◌}
use Rattle.std.proofs.Common.{sym, ◌∙◌, ap₂, subst, subst₂}
use Rattle.std.proofs.Math.Nat as Nat
use Rattle.questions.specs.Questions.{AllYes}
use Rattle.sheet.specs.declared.Values.{Values}
use Rattle.sheet.specs.Asked.{DegreeAllowed}
use Rattle.sheet.specs.Ready.{Ready}
use Rattle.promises.specs.Asked.{check_asks, ComposableValues, ProductAllowed}
use Rattle.promises.specs.Answer.{composed}
use Rattle.promises.specs.Certificates.{certificate_ready}
use Rattle.promises.specs.Composed.{composed_ready}
use Rattle.chains.specs.Chain.{values, Each, product, Chain}
use Rattle.chains.specs.Brackets.{Brackets, sheet, both, sheets}
use Rattle.chains.proofs.Lists.{Passes, each_each, each_map}
use Rattle.chains.proofs.Lists.{MeetInTurn, last, last-append, meet_meet}
use Rattle.chains.proofs.Lists.{product_append, chain, in_turn, turn_append}

-- the values of a part
abbrev pub values_in : Brackets → Values
values_in (sheet ws) = values ws
values_in (both s t) = composed (values_in s) (values_in t)

-- the sheets pass, and of every two parts 13 and 14 hold
abbrev pub Pairs : Brackets → Type 0
Pairs (sheet ws) = AllYes (check_asks ws)
Pairs (both s t) = Pairs s × Pairs t × ComposableValues (values_in s) (values_in t) × ProductAllowed (values_in s) (values_in t)

pub pairs_ready : (t : Brackets) → Pairs t → Ready (values_in t)
pairs_ready (sheet ws) passes = certificate_ready ws passes
pairs_ready (both s t) (a, b, meet, allowed) = composed_ready (values_in s) (values_in t) (pairs_ready s a) (pairs_ready t b) meet allowed

-- ── a first sheet, and those behind it

abbrev pub first : Brackets → List ℕ
first (sheet ws) = ws
first (both s t) = first s

abbrev pub rest : Brackets → List (List ℕ)
rest (sheet ws) = []
rest (both s t) = rest s ++ first t ∷ rest t

pub sheets_are : (t : Brackets) → sheets t ≡ first t ∷ rest t
sheets_are (sheet ws) = refl
sheets_are (both s t) = ap₂ ◌++◌ (sheets_are s) (sheets_are t)

abbrev end : Brackets → List ℕ
end t = last (first t) (rest t)

-- the values of a part begin as its first sheet does, and end as its last
pub domain : (t : Brackets) → ((values_in t).p ≡ (values (first t)).p) × ((values_in t).a ≡ (values (first t)).a) × ((values_in t).b ≡ (values (first t)).b)
domain (sheet ws) = (refl, refl, refl)
domain (both s t) = domain s

codomain : (t : Brackets) → ((values_in t).atilde ≡ (values (end t)).atilde) × ((values_in t).btilde ≡ (values (end t)).btilde)
codomain (sheet ws) = (refl, refl)
codomain (both s t) =
    subst (λ ws. ((values_in t).atilde ≡ (values ws).atilde) × ((values_in t).btilde ≡ (values ws).btilde))
    (sym (last-append (first s) (rest s) (first t) (rest t))) (codomain t)

pub degree_is : (t : Brackets) → product (sheets t) ≡ (values_in t).degree
degree_is (sheet ws) = Nat.mul-one (values ws).degree
degree_is (both s t) = product_append (sheets s) (sheets t) ∙ ap₂ ◌*◌ (degree_is s) (degree_is t)

-- one prime
meet_p : (x : List ℕ) (xs : List (List ℕ)) → MeetInTurn (x ∷ xs) → (values x).p ≡ (values (last x xs)).p
meet_p x [] h = refl
meet_p x (y ∷ ys) h = h.0.p ∙ meet_p y ys h.1

meet_primes : (x : List ℕ) (xs : List (List ℕ)) → MeetInTurn (x ∷ xs) → Each (λ ws. (values x).p ≡ (values ws).p) (x ∷ xs)
meet_primes x [] h = (refl, tt)
meet_primes x (y ∷ ys) h = (refl, each_map (y ∷ ys) (λ ws e. h.0.p ∙ e) (meet_primes y ys h.1))

-- ── what the sheets are asked, from what the pairs are

module _ (s t : Brackets) where
  -- 13 of two parts is that of the sheets between which they meet
  pub to_parts : MeetInTurn (first s ∷ rest s) → ComposableValues (values (end s)) (values (first t)) → ComposableValues (values_in s) (values_in t)
  to_parts h m = record {
    p = (domain s).0 ∙ meet_p (first s) (rest s) h ∙ m.p ∙ sym (domain t).0;
    a = (codomain s).0 ∙ m.a ∙ sym (domain t).1;
    b = (codomain s).1 ∙ m.b ∙ sym (domain t).2;
  }

  from_parts : MeetInTurn (first s ∷ rest s) → ComposableValues (values_in s) (values_in t) → ComposableValues (values (end s)) (values (first t))
  from_parts h m = record {
    p = sym ((domain s).0 ∙ meet_p (first s) (rest s) h) ∙ m.p ∙ (domain t).0;
    a = sym (codomain s).0 ∙ m.a ∙ (domain t).1;
    b = sym (codomain s).1 ∙ m.b ∙ (domain t).2;
  }

pairs_pass : (t : Brackets) → Pairs t → Each Passes (sheets t)
pairs_pass (sheet ws) passes = (passes, tt)
pairs_pass (both s t) (a, b, _, _) = each_each Passes (sheets s) (sheets t) (pairs_pass s a) (pairs_pass t b)

pub pairs_meet : (t : Brackets) → Pairs t → MeetInTurn (first t ∷ rest t)
pairs_meet (sheet ws) passes = tt
pairs_meet (both s t) (a, b, meet, _) =
    meet_meet (first t) (rest t) (first s) (rest s) (pairs_meet s a) (from_parts s t (pairs_meet s a) meet) (pairs_meet t b)

pub pairs_chain : (t : Brackets) → Pairs t → Chain (sheets t)
pairs_chain t pairs =
    let e : first t ∷ rest t ≡ sheets t = sym (sheets_are t) in
    let degree : DegreeAllowed (product (sheets t)) (values (first t)).p =
    subst₂ DegreeAllowed (sym (degree_is t)) (domain t).0 (pairs_ready t pairs).degree in
    chain (sheets t) (pairs_pass t pairs) (subst MeetInTurn e (pairs_meet t pairs))
    (subst (Each (λ ws. DegreeAllowed (product (sheets t)) (values ws).p)) e
    (each_map (first t ∷ rest t) (λ ws same. subst (DegreeAllowed (product (sheets t))) same degree)
    (meet_primes (first t) (rest t) (pairs_meet t pairs))))

-- ── the values

values_in_turn : (t : Brackets) → Pairs t → values_in t ≡ in_turn (values (first t)) (rest t)
unfolding in_turn
values_in_turn (sheet ws) passes = refl
values_in_turn (both s t) (a, b, meet, _) =
    ap₂ composed (values_in_turn s a) (values_in_turn t b)
    ∙ sym (turn_append (values (first s)) (rest s) (first t) (rest t) (sym (domain s).0 ∙ meet.p ∙ (domain t).0))

-- They are the same for every way to put the brackets.
pub same_values : (s t : Brackets) → sheets s ≡ sheets t → Pairs s → Pairs t → values_in s ≡ values_in t
same_values s t e a b =
    let same : first s ∷ rest s ≡ first t ∷ rest t = sym (sheets_are s) ∙ e ∙ sheets_are t in
    let one : first s ≡ first t = cc in
    let others : rest s ≡ rest t = cc in
    values_in_turn s a ∙ ap₂ (λ ws us. in_turn (values ws) us) one others ∙ sym (values_in_turn t b)
