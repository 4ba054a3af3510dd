-- The numbers that the C entries return are read back: a count, a j-value and the number of a point are below every refusal, so a caller learns the
-- whole answer of the service from its number.
-- Assumes nothing.
use Rattle.std.specs.Prelude.{◌≡◌, refl, cond, List, [], ◌∷◌, ℕ, ◌+◌, ◌*◌, ◌-◌, ◌/◌, ◌%◌, ◌^◌, ◌<◌, ◌≤◌, ltb, eqb, length, Result, Ok, Err}
use Rattle.std.proofs.Common.{sym, ◌∙◌, ap, subst, inl, inr, arith, lt-ltb, le-ltb, ne_eqb}
use Rattle.sheet.specs.declared.Form.TheVariants.{Certificate}
use Rattle.sheet.specs.Word.{words_of}
use Rattle.sheet.specs.Form.{most_words}
use Rattle.sheet.specs.Values.{values_of, gOf, n_of}
use Rattle.questions.specs.Numbered.{yes_to}
use Rattle.questions.specs.Questions.{Questions, FirstNo}
use Rattle.questions.specs.Number.{number, numbered, numbered_number}
use Rattle.questions.specs.declared.refusal.Refusal.{Refusal}
use Rattle.promises.specs.declared.Point.{Point}
use Rattle.promises.specs.declared.Point.TheVariants as point
use Rattle.promises.specs.Outcome.{verdict_number, image_number, written_number, name_number}
use Rattle.promises.specs.Asked.{solve_asks, kernel_asks, name_asks}
use Rattle.promises.specs.Answer.{Goes, composed, SolveRight, KernelRight, ComposeRight, NameRight}
use Rattle.sheet.specs.Ready.{half_most}
use Rattle.guarantees.specs.Compose.{composite_ready}
use Rattle.encoding.specs.Encoding.{point_of}
use Rattle.sagepliers.specs.Entry.{
  bytes_ask,
  CheckAnswer,
  CheckNumber,
  push_number_asks,
  PushAnswer,
  PushNumber,
  SolveNumber,
  KernelNumber,
  ComposeNumber,
  NameNumber,
}

abbrev pub written_of : ℕ → Result ℕ Refusal
written_of r = cond (ltb r (2 ^ 57)) (Ok r) (Err (numbered (r - 2 ^ 57)))

abbrev pub name_of : ℕ → Result ℕ Refusal
name_of r = written_of r

abbrev pub image_of : ℕ → Result Point Refusal
image_of r =
    cond (ltb r (2 ^ 56)) (Ok (point.Affine (r % 2 ^ 28) (r / 2 ^ 28))) (cond (eqb r (2 ^ 56)) (Ok point.Infinity) (Err (numbered (r - 2 ^ 57))))

-- ── check: no question has the number 0

abbrev Positive : Questions → Type 0
Positive [] = Unit {0}
Positive (q ∷ qs) = (1 ≤ q.0) × Positive qs

positive : (qs : Questions) (n : ℕ) → Positive qs → FirstNo qs n → 1 ≤ n
positive [] n p h = absurd h
positive (q ∷ qs) n p (inl h) = subst (λ m. 1 ≤ m) (sym h.0) p.0
positive (q ∷ qs) n p (inr h) = positive qs n p.1 h.1

abbrev pub verdict_of : ℕ → Result (Unit {0}) Refusal
verdict_of r = cond (eqb r 0) (Ok tt) (Err (numbered r))

module _ (bytes : List ℕ) where
  from_one : Positive (bytes_ask bytes)
  from_one = (
    omega arith,
    (
      omega arith,
      (
        omega arith,
        (
          omega arith,
          (omega arith, (omega arith, (omega arith, (omega arith, (omega arith, (omega arith, tt)))))),
        ),
      ),
    ),
  )

  verdict_back : (v : Result (Unit {0}) Refusal) → CheckAnswer bytes v → verdict_of (verdict_number v) ≡ v
  verdict_back (Ok tt) h = refl
  verdict_back (Err q) h =
      ap (λ t. cond t (Ok tt) (Err (numbered (number q))))
      (ne_eqb (number q) 0 (λ e. omega (arith, e, positive (bytes_ask bytes) (number q) from_one h)))
      ∙ ap Err (numbered_number q)

  pub check_read : (r : ℕ) → CheckNumber bytes r → CheckAnswer bytes (verdict_of r)
  check_read r h = subst (CheckAnswer bytes) (sym (ap verdict_of h.number ∙ verdict_back h.answer h.right)) h.right

-- ── solve, kernel and compose: no certificate has more words than the largest

value_back : (c : ℕ) → c < 2 ^ 57 → written_of c ≡ Ok c
value_back c small = ap (λ t. cond t (Ok c) (Err (numbered (c - 2 ^ 57)))) (lt-ltb c (2 ^ 57) small)

-- what stands above 2^57
above : (q : Refusal) → ◌≡◌ {A = Refusal} (numbered (2 ^ 57 + number q - 2 ^ 57)) q
above q = let back : 2 ^ 57 + number q - 2 ^ 57 ≡ number q = omega arith in ap numbered back ∙ numbered_number q

refusal_back : (q : Refusal) → written_of (2 ^ 57 + number q) ≡ Err q
refusal_back q =
    let k = 2 ^ 57 + number q in
    ap (λ t. cond t (Ok k) (Err (numbered (k - 2 ^ 57)))) (le-ltb k (2 ^ 57) (omega arith)) ∙ ap Err (above q)

module _ (ws before after : List ℕ) where
  pub solve_count : (c : ℕ) → SolveRight ws before after (Ok c) → c ≤ most_words
  solve_count c h = omega (arith, (yes_to (solve_asks ws (length before)) 4 h.0).most, h.1.count_is)

  solve_back : (w : Result ℕ Refusal) → SolveRight ws before after w → written_of (written_number w) ≡ w
  solve_back (Ok c) h = value_back c (omega (arith, solve_count c h))
  solve_back (Err q) h = refusal_back q

  pub solve_read : (r : ℕ) → SolveNumber ws before after r → SolveRight ws before after (written_of r)
  solve_read r h = subst (SolveRight ws before after) (sym (ap written_of h.number ∙ solve_back h.answer h.right)) h.right

  pub kernel_count : (c : ℕ) → KernelRight ws before after (Ok c) → c ≤ most_words
  kernel_count c h = omega (arith, (yes_to (kernel_asks ws (length before)) 4 h.0).most, h.1.certificate.count_is)

  kernel_back : (w : Result ℕ Refusal) → KernelRight ws before after w → written_of (written_number w) ≡ w
  kernel_back (Ok c) h = value_back c (omega (arith, kernel_count c h))
  kernel_back (Err q) h = refusal_back q

  pub kernel_read : (r : ℕ) → KernelNumber ws before after r → KernelRight ws before after (written_of r)
  kernel_read r h = subst (KernelRight ws before after) (sym (ap written_of h.number ∙ kernel_back h.answer h.right)) h.right

module _ (first second before after : List ℕ) where
  pub compose_count : (c : ℕ) → ComposeRight first second before after (Ok c) → c ≤ most_words
  compose_count c h =
      omega (
        arith,
        half_most (composed (values_of Certificate first) (values_of Certificate second)) (composite_ready first second (length before) h.0),
        h.1.certificate.count_is,
      )

  compose_back : (w : Result ℕ Refusal) → ComposeRight first second before after w → written_of (written_number w) ≡ w
  compose_back (Ok c) h = value_back c (omega (arith, compose_count c h))
  compose_back (Err q) h = refusal_back q

  pub compose_read : (r : ℕ) → ComposeNumber first second before after r → ComposeRight first second before after (written_of r)
  compose_read r h =
      subst (ComposeRight first second before after) (sym (ap written_of h.number ∙ compose_back h.answer h.right)) h.right

-- ── name: the j-value is below p, and p below 2^28

module _ (p a b : ℕ) where
  name_back : (w : Result ℕ Refusal) → NameRight p a b w → name_of (name_number w) ≡ w
  name_back (Ok j) h = value_back j (omega (arith, (yes_to (name_asks p a b) 3 h.0).most, h.1.0))
  name_back (Err q) h = refusal_back q

  pub name_read : (r : ℕ) → NameNumber p a b r → NameRight p a b (name_of r)
  name_read r h = subst (NameRight p a b) (sym (ap name_of h.number ∙ name_back h.answer h.right)) h.right

-- ── push: the coordinates are below p, and p below 2^28

affine_back : (u v : ℕ) → u < 2 ^ 28 → v < 2 ^ 28 → image_of (u + 2 ^ 28 * v) ≡ Ok (point.Affine u v)
affine_back u v hu hv =
    let k = u + 2 ^ 28 * v in
    let low : (u + 2 ^ 28 * v) % 2 ^ 28 ≡ u = omega arith in
    let high : (u + 2 ^ 28 * v) / 2 ^ 28 ≡ v = omega arith in
    ap (λ t. cond t (Ok (point.Affine (k % 2 ^ 28) (k / 2 ^ 28))) (cond (eqb k (2 ^ 56)) (Ok point.Infinity) (Err (numbered (k - 2 ^ 57)))))
    (lt-ltb k (2 ^ 56) (omega arith))
    ∙ ap (λ x. Ok (point.Affine x (k / 2 ^ 28))) low ∙ ap (λ y. Ok (point.Affine u y)) high

refused_back : (q : Refusal) → image_of (2 ^ 57 + number q) ≡ Err q
refused_back q =
    let k = 2 ^ 57 + number q in
    ap (λ t. cond t (Ok (point.Affine (k % 2 ^ 28) (k / 2 ^ 28))) (cond (eqb k (2 ^ 56)) (Ok point.Infinity) (Err (numbered (k - 2 ^ 57)))))
    (le-ltb k (2 ^ 56) (omega arith))
    ∙ ap (λ t. cond t (Ok point.Infinity) (Err (numbered (k - 2 ^ 57)))) (ne_eqb k (2 ^ 56) (λ e. omega (arith, e))) ∙ ap Err (above q)

module _ (bytes : List ℕ) (k : ℕ) where
  abbrev ws : List ℕ
  ws = words_of bytes

  goes_small : (values_of Certificate ws).p < 2 ^ 28 → (at : Point) (u v : ℕ)
      → Goes (values_of Certificate ws) (gOf Certificate ws) (n_of Certificate ws) at (point.Affine u v) → (u < 2 ^ 28) × (v < 2 ^ 28)
  goes_small small (point.Affine x y) u v h = (omega (arith, h.u_below), omega (arith, h.w_below))
  goes_small small point.Infinity u v h = absurd h

  image_back : (w : Result Point Refusal) → PushAnswer bytes k w → image_of (image_number w) ≡ w
  image_back (Ok (point.Affine u v)) h =
      let small = goes_small (yes_to (push_number_asks bytes k) 3 h.0).most (point_of k) u v h.1 in
      affine_back u v small.0 small.1
  image_back (Ok point.Infinity) h = refl
  image_back (Err q) h = refused_back q

  pub push_read : (r : ℕ) → PushNumber bytes k r → PushAnswer bytes k (image_of r)
  push_read r h = subst (PushAnswer bytes k) (sym (ap image_of h.number ∙ image_back h.answer h.right)) h.right
