-- Questions 2 to 7 put to a sheet of any form, by computing: all are answered with yes, or the first no is 5 or 6 because of
-- a value, or 7 because of the domain.
-- Assumes nothing.
use Rattle.std.specs.Prelude.{◌≡◌, refl, Bool, true, false, cond, not, List, [], ◌∷◌, map, ℕ, zero, suc, ◌+◌, ◌*◌, ◌-◌, ◌%◌, ◌^◌, ◌<◌, ◌≤◌, T, eqb, leb, ltb, length, get_or, take, drop}
use Rattle.std.proofs.Common.{sym, ◌∙◌, ap, subst, arith, ltb-true, lt-ltb, eqb→eq, leb→le, ltb→lt, length-drop, get_or-drop}
use Rattle.std.proofs.lemmas.List.{length-map}
use Rattle.std.proofs.Math.ListN.{get_or-map}
use Rattle.ring.specs.Test.{both, both_left, both_right}
use Rattle.zmod.specs.Prime.{Prime, prime_pos}
use Rattle.zmod.specs.Calculation.{prime_test, prime_yes}
use Rattle.sheet.specs.declared.Form.{Form}
use Rattle.sheet.specs.Word.{kind_of, value_of}
use Rattle.sheet.specs.declared.Values.{Values}
use Rattle.sheet.specs.Form.{header, body, holds}
use Rattle.sheet.specs.Values.{values_of, half, coefficient_in}
use Rattle.sheet.specs.Reduction.{value_zero}
use Rattle.questions.specs.Questions.{AllYes, FirstNo}
use Rattle.questions.specs.Numbered.{first_no}
use Rattle.sheet.specs.Asked.{asked, Asked2, PrimeAllowed, DegreeAllowed, ValuesBelow, Asked6, Curves}
use Rattle.marked.specs.Tests.{one, one_of, every, Every, every_yes, same_list, same_list_yes, below, below_yes, below_no}
use Rattle.marked.specs.Rules.{nonsingular_test, nonsingular_by_computing, singular_test, singular_by_computing}

-- the codomain is asked where the header has it
abbrev curves : Form → Values → Bool
curves form v = both (nonsingular_test v.p v.a v.b) (cond (holds 4 (header form)) (nonsingular_test v.p v.atilde v.btilde) true)

curves_yes : (form : Form) (v : Values) → 0 < v.p → T (curves form v) → Curves form v
curves_yes form v pos t = record {
  domain = nonsingular_by_computing pos _ _ (both_left (nonsingular_test v.p v.a v.b) _ t);
  codomain = λ e.
      let u : T (cond (holds 4 (header form)) (nonsingular_test v.p v.atilde v.btilde) true) =
      both_right (nonsingular_test v.p v.a v.b) _ t in
      nonsingular_by_computing pos _ _ (subst (λ b. T (cond b (nonsingular_test v.p v.atilde v.btilde) true)) e u);
}

module _ (form : Form) (ws : List ℕ) where
  abbrev v : Values
  v = values_of form ws

  abbrev p : ℕ
  p = v.p

  abbrev ℓ : ℕ
  ℓ = v.degree

  abbrev h : ℕ
  h = length (header form)

  abbrev rest : List ℕ
  rest = drop h ws

  -- what is read of the words after the header; the count and the end are no coefficients
  abbrev read_word : ℕ → ℕ
  read_word w = cond (ltb (kind_of w) 10) (coefficient_in form p w) 0

  abbrev read : List ℕ
  read = map read_word rest

  abbrev values : List ℕ
  values = v.a ∷ v.b ∷ v.atilde ∷ v.btilde ∷ v.sigma ∷ []

  -- 2, 3 and 4
  abbrev first_tests : List Bool
  first_tests =
      same_list (map kind_of (take h ws)) (header form)
      ∷ prime_test p ∷ leb 11 p ∷ ltb p (2 ^ 28)
      ∷ eqb (ℓ % 2) 1 ∷ leb 3 ℓ ∷ leb ℓ 255 ∷ ltb (2 * ℓ - 1) p ∷ []

  -- 5 and 6
  abbrev second_tests : List Bool
  second_tests =
      below p values
      ∷ same_list (map kind_of rest) (body form (half v)) ∷ below p read ∷ eqb (value_of (get_or ws (length ws - 1) 0)) 0 ∷ []

  -- and 7
  abbrev tests : List Bool
  tests = every first_tests ∷ every second_tests ∷ curves form v ∷ []

  abbrev pub asked_test : Bool
  asked_test = every tests

  first_yes : T asked_test → T (every first_tests)
  first_yes t = every_yes tests t 0

  -- ── the first three questions

  module _ (t : T (every first_tests)) where
    yes : Every first_tests
    yes = every_yes first_tests t

    two : Asked2 form ws
    unfolding Asked2
    two = same_list_yes _ _ (yes 0)

    three : PrimeAllowed p
    three = record { prime = prime_yes p (yes 1); least = leb→le 11 p (yes 2); most = ltb→lt p (2 ^ 28) (yes 3) }

    four : DegreeAllowed ℓ p
    four = record {
      odd = eqb→eq (ℓ % 2) 1 (yes 4);
      least = leb→le 3 ℓ (yes 5);
      most = leb→le ℓ 255 (yes 6);
      small = ltb→lt (2 * ℓ - 1) p (yes 7);
    }

    positive : 0 < p
    positive = prime_pos three.prime

  pub prime_by_computing : T asked_test → Prime p
  prime_by_computing t = (three (first_yes t)).prime

  pub least_by_computing : T asked_test → 11 ≤ p
  least_by_computing t = (three (first_yes t)).least

  -- ── all of them

  five_yes : 0 < p → T (below p values) → ValuesBelow v
  five_yes pos t =
      let small : (i : ℕ) → get_or values i 0 < p = below_yes p pos values t in
      record { a = small 0; b = small 1; atilde = small 2; btilde = small 3; sigma = small 4 }

  read_at : (i : ℕ) → get_or read i 0 ≡ read_word (get_or ws (h + i) 0)
  read_at i =
      ap (λ z. get_or read i z) (sym (value_zero form p)) ∙ get_or-map read_word rest i 0 ∙ ap read_word (get_or-drop h ws i 0)

  below_at : 0 < p → T (below p read) → (i : ℕ) → h ≤ i → kind_of (get_or ws i 0) < 10 → coefficient_in form p (get_or ws i 0) < p
  below_at pos t i l few =
      let e : get_or read (i - h) 0 ≡ coefficient_in form p (get_or ws i 0) =
      read_at (i - h) ∙ ap (λ k. read_word (get_or ws k 0)) (omega arith)
      ∙ ap (λ b. cond b (coefficient_in form p (get_or ws i 0)) 0) (lt-ltb (kind_of (get_or ws i 0)) 10 few) in
      subst (λ x. x < p) e (below_yes p pos read t (i - h))

  six_yes : 0 < p → Every second_tests → Asked6 form ws
  six_yes pos s = record { kinds = same_list_yes _ _ (s 1); below = λ i l m. below_at pos (s 2) i l; end = eqb→eq _ _ (s 3) }

  pub asked_by_computing : T asked_test → AllYes (asked form ws)
  asked_by_computing t =
      let first : T (every first_tests) = first_yes t in
      let pos : 0 < p = positive (first_yes t) in
      let s : Every second_tests = every_yes second_tests (every_yes tests t 1) in
      (two first, (three first, (four first, (five_yes pos (s 0), (six_yes pos s, (curves_yes form v pos (every_yes tests t 2), tt))))))

  -- ── refused with 5, or with 6 for a coefficient: some value is not below p

  abbrev fifth_tests : List Bool
  fifth_tests = every first_tests ∷ not (below p values) ∷ []

  fifth_by_computing : Every fifth_tests → FirstNo (asked form ws) 5
  fifth_by_computing t =
      first_no (asked form ws) 5 tt (two (t 0), (three (t 0), (four (t 0), tt))) (λ b. below_no p values (t 1) (λ i l. at b i))
    where
      at : ValuesBelow v → (i : ℕ) → get_or values i 0 < p
      at b zero = b.a
      at b (suc zero) = b.b
      at b (suc (suc zero)) = b.atilde
      at b (suc (suc (suc zero))) = b.btilde
      at b (suc (suc (suc (suc zero)))) = b.sigma
      at b (suc (suc (suc (suc (suc i))))) = positive (t 0)

  abbrev sixth_tests : List Bool
  sixth_tests = every first_tests ∷ below p values ∷ not (below p read) ∷ []

  sixth_by_computing : Every sixth_tests → FirstNo (asked form ws) 6
  sixth_by_computing t =
      let pos : 0 < p = positive (t 0) in
      first_no (asked form ws) 6 tt (two (t 0), (three (t 0), (four (t 0), (five_yes pos (t 1), tt)))) (λ a.
      below_no p read (t 2) (λ i l. subst (λ x. x < p) (sym (read_at i))
      (at a (h + i) (omega arith) (omega (arith, l, length-map rest read_word, length-drop h ws)) (ltb (kind_of (get_or ws (h + i) 0)) 10) refl)))
    where
      at : Asked6 form ws → (i : ℕ) → h ≤ i → i < length ws → (b : Bool) → ltb (kind_of (get_or ws i 0)) 10 ≡ b
          → cond b (coefficient_in form p (get_or ws i 0)) 0 < p
      at a i l m true e = a.below i l m (ltb-true (kind_of (get_or ws i 0)) 10 e)
      at a i l m false e = positive (t 0)

  -- ── refused with 7: the domain is no curve

  abbrev seventh_tests : List Bool
  seventh_tests = every first_tests ∷ every second_tests ∷ singular_test p v.a v.b ∷ []

  seventh_by_computing : Every seventh_tests → FirstNo (asked form ws) 7
  seventh_by_computing t =
      let pos : 0 < p = positive (t 0) in
      let s : Every second_tests = every_yes second_tests (t 1) in
      first_no (asked form ws) 7 tt (two (t 0), (three (t 0), (four (t 0), (five_yes pos (s 0), (six_yes pos s, tt)))))
      (λ curves. singular_by_computing pos v.a v.b (t 2) curves.domain)

  -- ── refused with k, for one of these reasons

  abbrev with_number : ℕ → ℕ → List Bool → Bool
  with_number k number tests = both (eqb k number) (every tests)

  refused_with : (k number : ℕ) (tests : List Bool) → (Every tests → FirstNo (asked form ws) number) → T (with_number k number tests)
      → FirstNo (asked form ws) k
  refused_with k number tests says t =
      subst (FirstNo (asked form ws)) (sym (eqb→eq k number (both_left (eqb k number) (every tests) t)))
      (says (every_yes tests (both_right (eqb k number) (every tests) t)))

  abbrev pub no_test : ℕ → Bool
  no_test k = one (with_number k 5 fifth_tests) (one (with_number k 6 sixth_tests) (with_number k 7 seventh_tests))

  pub no_by_computing : (k : ℕ) → T (no_test k) → FirstNo (asked form ws) k
  no_by_computing k =
      one_of (with_number k 5 fifth_tests) (one (with_number k 6 sixth_tests) (with_number k 7 seventh_tests)) (refused_with k 5 fifth_tests fifth_by_computing)
      (one_of (with_number k 6 sixth_tests) (with_number k 7 seventh_tests) (refused_with k 6 sixth_tests sixth_by_computing)
      (refused_with k 7 seventh_tests seventh_by_computing))
