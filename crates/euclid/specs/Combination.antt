-- What a division step makes: c a + f b is a modulo b, up to c. With f = (y x + z) xˢ for the right c, y and z it has two coefficients less than a; with a
-- constant, one less.
-- Assumes nothing.
use Rattle.std.specs.Prelude.{◌≡◌, List, ◌++◌, ℕ, zero, suc, ◌+◌, ◌-◌, ◌*◌, ◌^◌, ◌≤◌, ◌<◌, length, get_or, set, take, drop}
use Rattle.std.proofs.Common.{sym, ◌∙◌, ap, ap₂, subst, arith, length-set, length-append, length-take, length-drop, get_or-set_same, get_or-set_other}
use Rattle.std.proofs.Math.Nat as N
use Rattle.std.proofs.Math.Decide.{dec_lt}
use Rattle.slices.specs.Stored.{part_at, back_before, back_inside}
use Rattle.ring.specs.Ring.{CRing}
use Rattle.ring.specs.Identity.{solve2, solve3, solve4}
use Rattle.ring.specs.Identity.Ex.{:0, ◌:+◌, ◌:-◌, ◌:*◌, :-◌}
use Rattle.series.specs.Series.{Series, Seq, conv, sums, scaled, head_then, const, conv_zero, conv_suc, conv_const}
use Rattle.series.specs.Degree.{Below, Poly, below_drop}
use Rattle.series.specs.Reversal.{shift, shift_low, shift_at, conv_shift}
use Rattle.zmod.specs.Zmod.{Zmod, mk, plus, times, plus_zero}
use Rattle.zmod.specs.Residues.{Residue, Reduced, Residues, poly, poly_at, residue_same, residues_at, residues_filled}
use Rattle.divisibility.specs.Congruence.{Congruent}
use Rattle.euclid.specs.Words.{poly_front, front_inside, front_past}

module _ (R : CRing) where
  open R use {Car, 𝟘, add as ◌⊕◌, mul as ◌⊗◌, neg}

  infixl 65 ◌⊕◌
  infixl 70 ◌⊗◌
  -- the polynomial y x + z
  abbrev pub linear : Car → Car → Seq R
  linear y z = head_then R z (const R y)

  pub linear_at : (y z : Car) (b : Seq R) (i : ℕ) → conv R (linear y z) b i ≡ z ⊗ b i ⊕ y ⊗ head_then R 𝟘 b i
  linear_at y z b zero = conv_zero R (linear y z) b ∙ solve2 R (λ x y. x) (λ x y. x :+ y :* :0) tt (z ⊗ b 0) y
  linear_at y z b (suc i) = conv_suc R (linear y z) b i ∙ ap (λ x. z ⊗ b (suc i) ⊕ x) (conv_const R y b i)

  pub shifted_at : (s : ℕ) (c y z : Car) (a b : Seq R) (j : ℕ)
      → sums R (scaled R c a) (shift R s (conv R (linear y z) b)) (s + j) ≡ c ⊗ a (s + j) ⊕ (z ⊗ b j ⊕ y ⊗ head_then R 𝟘 b j)
  shifted_at s c y z a b j = ap (λ x. c ⊗ a (s + j) ⊕ x) (shift_at R s _ j ∙ linear_at y z b j)

  -- ── modulo b

  pub plus_multiple_congruent : (c : Car) (a b f : Seq R) → Poly R f → Congruent R b (sums R (scaled R c a) (conv R f b)) (scaled R c a)
  plus_multiple_congruent c a b f pf = record {
    cofactor = f;
    poly = pf;
    is = solve3 (Series R) (λ b f s. b :* f) (λ b f s. s :+ f :* b :- s) tt b f (scaled R c a);
  }

  pub linear_poly : (s : ℕ) (y z : Car) → Poly R (shift R s (linear y z))
  linear_poly s y z = (
    s + 2,
    λ i l.
        let e : s + suc (suc (i - s - 2)) ≡ i = omega arith in
        ap (shift R s (linear y z)) (sym e) ∙ shift_at R s (linear y z) (suc (suc (i - s - 2))),
  )

  pub shifted_congruent : (s : ℕ) (c y z : Car) (a b : Seq R)
      → Congruent R b (sums R (scaled R c a) (shift R s (conv R (linear y z) b))) (scaled R c a)
  shifted_congruent s c y z a b =
      subst (λ t. Congruent R b (sums R (scaled R c a) t) (scaled R c a)) (conv_shift R s (linear y z) b)
      (plus_multiple_congruent c a b (shift R s (linear y z)) (linear_poly s y z))

  -- ── two coefficients less: b has d + 1 coefficients, a has s + d + 2

  module _ (s d : ℕ) (a b : Seq R) (c y z : Car) (below_b : Below R (suc d) b) (below_a : Below R (suc (suc (s + d))) a) (c_is : c ≡ b d ⊗ b d)
      (y_is : y ≡ neg (a (s + suc d)) ⊗ b d) (z_is : z ≡ a (s + suc d) ⊗ head_then R 𝟘 b d ⊕ neg (a (s + d)) ⊗ b d) where
    abbrev whole : Seq R
    whole = sums R (scaled R c a) (shift R s (conv R (linear y z) b))

    at : (j : ℕ) → whole (s + j) ≡ c ⊗ a (s + j) ⊕ (z ⊗ b j ⊕ y ⊗ head_then R 𝟘 b j)
    at = shifted_at s c y z a b

    highest : whole (s + suc d) ≡ 𝟘
    highest =
        at (suc d) ∙ ap₂ (λ x y. x ⊗ a (s + suc d) ⊕ (z ⊗ b (suc d) ⊕ y ⊗ b d)) c_is y_is
        ∙ ap (λ x. b d ⊗ b d ⊗ a (s + suc d) ⊕ (z ⊗ x ⊕ neg (a (s + suc d)) ⊗ b d ⊗ b d)) (below_b (suc d) (omega arith))
        ∙ solve3 R (λ a b z. b :* b :* a :+ (z :* :0 :+ :- a :* b :* b)) (λ a b z. :0) tt (a (s + suc d)) (b d) z

    next : whole (s + d) ≡ 𝟘
    next =
        at d ∙ ap₂ (λ x y. x ⊗ a (s + d) ⊕ (z ⊗ b d ⊕ y ⊗ head_then R 𝟘 b d)) c_is y_is
        ∙ ap (λ x. b d ⊗ b d ⊗ a (s + d) ⊕ (x ⊗ b d ⊕ neg (a (s + suc d)) ⊗ b d ⊗ head_then R 𝟘 b d)) z_is
        ∙ solve4 R (λ a₁ a₀ b₁ b₀. b₁ :* b₁ :* a₀ :+ ((a₁ :* b₀ :+ :- a₀ :* b₁) :* b₁ :+ :- a₁ :* b₁ :* b₀)) (λ a₁ a₀ b₁ b₀. :0) tt
        (a (s + suc d)) (a (s + d)) (b d) (head_then R 𝟘 b d)

    past : Below R (suc (suc (s + d))) whole
    past i l =
        let j : ℕ = i - s - 1 in
        let e : s + suc j ≡ i = omega arith in
        ap whole (sym e) ∙ at (suc j) ∙ ap₂ (λ x v. c ⊗ x ⊕ (z ⊗ v ⊕ y ⊗ b j)) (below_a (s + suc j) (omega arith)) (below_b (suc j) (omega arith))
        ∙ ap (λ x. c ⊗ 𝟘 ⊕ (z ⊗ 𝟘 ⊕ y ⊗ x)) (below_b j (omega arith))
        ∙ solve3 R (λ c y z. c :* :0 :+ (z :* :0 :+ y :* :0)) (λ c y z. :0) tt c y z

    pub cancelled_two : Below R (s + d) whole
    cancelled_two =
        let e : s + suc d ≡ suc (s + d) = omega arith in
        below_drop R (s + d) whole (below_drop R (suc (s + d)) whole past (ap whole (sym e) ∙ highest)) next

  -- ── one coefficient less: a and b have d + 1

  pub cancelled_one : (d : ℕ) (a b : Seq R) → Below R (suc d) a → Below R (suc d) b
      → Below R d (sums R (scaled R (b d) a) (scaled R (neg (a d)) b))
  cancelled_one d a b below_a below_b =
      below_drop R d _ (λ i l. ap₂ (λ x y. b d ⊗ x ⊕ neg (a d) ⊗ y) (below_a i l) (below_b i l)
      ∙ solve2 R (λ c y. c :* :0 :+ y :* :0) (λ c y. :0) tt (b d) (neg (a d)))
      (solve2 R (λ a b. b :* a :+ :- a :* b) (λ a b. :0) tt (a d) (b d))

-- ── in slices

-- a product of residues is below a quarter of what a short remainder takes, so three are below it
pub product_fits : (p c x : ℕ) → p < 2 ^ 28 → c < p → x < p → c * x < 2 ^ 28 * p
product_fits p c x small hc hx =
    let le : c * x ≤ 268435456 * x = N.mul-le-mul_right x (omega arith) in
    omega arith

-- what `add_multiple` leaves, with s words more in a than in b: `front` are the words before s, v is the one at s, and `rear` are those behind
module _ (a b front : List ℕ) (v : ℕ) where
  abbrev s : ℕ
  s = length a - length b

  -- once the front is back
  abbrev first : List ℕ
  first = front ++ drop s a

  abbrev second : List ℕ
  second = set first s v

  abbrev k : ℕ
  k = length second - (s + 1)

  abbrev all : List ℕ → List ℕ
  all rear = take (s + 1) second ++ (rear ++ drop k (drop (s + 1) second))

  module _ (fits : length b ≤ length a) (size : length front ≡ s) where
    pub first_length : length first ≡ length a
    first_length = omega (arith, length-append front (drop s a), length-drop s a)

    pub second_length : length second ≡ length a
    second_length = length-set first s v ∙ first_length

    pub rear_length : length (take k (drop (s + 1) second)) ≡ length b - 1
    rear_length = omega (arith, second_length, length-take k (drop (s + 1) second), length-drop (s + 1) second)

    pub all_length : (rear : List ℕ) → length rear ≡ length b - 1 → 0 < length b → length (all rear) ≡ length a
    all_length rear size' some = omega (
      arith,
      second_length,
      length-append (take (s + 1) second) (rear ++ drop k (drop (s + 1) second)),
      length-take (s + 1) second,
      length-append rear (drop k (drop (s + 1) second)),
      length-drop k (drop (s + 1) second),
      length-drop (s + 1) second,
    )

    pub first_at : get_or first s 0 ≡ get_or a s 0
    first_at = front_past a front s size s (omega arith)

    second_before : (i : ℕ) → i < s → get_or second i 0 ≡ get_or front i 0
    second_before i l = get_or-set_other first s i v 0 (omega arith) ∙ front_inside a front s size i l

    second_here : 0 < length b → get_or second s 0 ≡ v
    second_here some = get_or-set_same first s v 0 (omega (arith, first_length))

    second_behind : (i : ℕ) → s < i → get_or second i 0 ≡ get_or a i 0
    second_behind i l = get_or-set_other first s i v 0 (omega arith) ∙ front_past a front s size i (omega arith)

    pub second_reduced : (p : ℕ) → 0 < length b → Reduced p a → Reduced p front → v < p → Reduced p second
    second_reduced p some low low' here i = go (dec_lt i s) (dec_lt s i)
      where
        go : Dec (i < s) → Dec (s < i) → get_or second i 0 < p
        go (yes l) m = omega (arith, second_before i l, low' i)
        go (no l) (yes m) = omega (arith, second_behind i m, low i)
        go (no l) (no m) =
            let e : s ≡ i = omega arith in
            subst (λ t. get_or second t 0 < p) e (omega (arith, second_here some))

  module _ (p c y z : ℕ) (rear : List ℕ) (pos : 0 < p) (some : 0 < length b) (fits : length b ≤ length a) (size : length front ≡ s)
      (size' : length rear ≡ length b - 1) (low : Residues p (scaled (Zmod p) (mk p c) (poly p (take s a))) front)
      (mid : Residue p (plus p (times p (mk p c) (mk p (get_or first s 0))) (times p (mk p z) (mk p (get_or b 0 0)))) v)
      (high : Residues p (sums (Zmod p) (sums (Zmod p) (scaled (Zmod p) (mk p c) (poly p (take k (drop (s + 1) second))))
      (scaled (Zmod p) (mk p y) (poly p (take (length b - 1) b)))) (scaled (Zmod p) (mk p z) (poly p (take (length b - 1) (drop 1 b))))) rear) where
    abbrev total : Seq (Zmod p)
    total = sums (Zmod p) (scaled (Zmod p) (mk p c) (poly p a)) (shift (Zmod p) s (conv (Zmod p) (linear (Zmod p) (mk p y) (mk p z)) (poly p b)))

    long : length second ≡ length a
    long = second_length fits size

    all_low : (i : ℕ) → i < s + 1 → get_or (all rear) i 0 ≡ get_or second i 0
    all_low = back_before second rear (s + 1) k (omega (arith, long)) (omega (arith, long))

    all_high : (j : ℕ) → j < length b - 1 → get_or (all rear) (s + 1 + j) 0 ≡ get_or rear j 0
    all_high j l = back_inside second rear (s + 1) k (omega (arith, long)) (omega (arith, long)) j (omega (arith, long))

    coefficient : (j : ℕ) → total (s + j)
        ≡ plus p (times p (mk p c) (poly p a (s + j))) (plus p (times p (mk p z) (poly p b j)) (times p (mk p y) (head_then (Zmod p) (mk p 0) (poly p b) j)))
    coefficient = shifted_at (Zmod p) s (mk p c) (mk p y) (mk p z) (poly p a) (poly p b)

    before : (i : ℕ) → i < s → Residue p (total i) (get_or (all rear) i 0)
    before i l =
        subst (Residue p (total i)) (sym (all_low i (omega arith) ∙ second_before fits size i l))
        (residue_same (ap (times p (mk p c)) (poly_front p s a i l) ∙ sym (plus_zero p _)
        ∙ ap (plus p (times p (mk p c) (poly p a i))) (sym (shift_low (Zmod p) s _ i l))) (residues_at low i (omega arith)))

    from : (j : ℕ) → j < length b → Residue p (total (s + j)) (get_or (all rear) (s + j) 0)
    from zero l =
        let e : s ≡ s + 0 = omega arith in
        subst (Residue p (total (s + 0))) (sym (ap (λ i. get_or (all rear) i 0) (sym e) ∙ all_low s (omega arith) ∙ second_here fits size some))
        (residue_same (ap₂ (λ x w. plus p (times p (mk p c) x) (times p (mk p z) w))
        (ap (mk p) (first_at fits size) ∙ sym (poly_at p a s) ∙ ap (poly p a) e) (sym (poly_at p b 0))
        ∙ solve3 (Zmod p) (λ x v y. x :+ v) (λ x v y. x :+ (v :+ y :* :0)) tt _ _ (mk p y) ∙ sym (coefficient 0)) mid)
    from (suc j) l =
        let e : s + 1 + j ≡ s + suc j = omega arith in
        subst (Residue p (total (s + suc j))) (sym (ap (λ i. get_or (all rear) i 0) (sym e) ∙ all_high j (omega arith)))
        (residue_same (ap₂ (plus p) (ap₂ (λ x w. plus p (times p (mk p c) x) (times p (mk p y) w))
        (poly_at p _ j
        ∙ ap (mk p) (part_at second (s + 1) k j (omega (arith, long)) ∙ second_behind fits size (s + 1 + j) (omega arith) ∙ ap (λ i. get_or a i 0) e)
        ∙ sym (poly_at p a (s + suc j))) (poly_front p (length b - 1) b j (omega arith)))
        (ap (times p (mk p z)) (poly_at p _ j ∙ ap (mk p) (part_at b 1 (length b - 1) j (omega arith) ∙ ap (λ i. get_or b i 0) (omega arith))
        ∙ sym (poly_at p b (suc j))))
        ∙ solve3 (Zmod p) (λ x v w. x :+ v :+ w) (λ x v w. x :+ (w :+ v)) tt _ _ _ ∙ sym (coefficient (suc j)))
        (residues_at high j (omega (arith, long))))

    pub added_residues : Residues p total (all rear)
    added_residues = residues_filled {a = total} pos (λ i l. go i (omega (arith, all_length fits size rear size' some)) (dec_lt i s))
      where
        go : (i : ℕ) → i < length a → Dec (i < s) → Residue p (total i) (get_or (all rear) i 0)
        go i l (yes h) = before i h
        go i l (no h) = let e : s + (i - s) ≡ i = omega arith in subst (λ t. Residue p (total t) (get_or (all rear) t 0)) e (from (i - s) (omega arith))
