-- A decision of identities in commutative rings, by computing.
-- An expression `Ex` is normalised to a polynomial `Pol` in Horner form with integer coefficients; `ring` says that two expressions whose
-- difference normalises to zero have one value in every commutative ring, whatever their variables stand for; `solve2` .. are for use.
-- Assumes nothing.
use Rattle.std.specs.Prelude.{◌≡◌, refl, Bool, true, false, List, [], ◌∷◌, ℕ, zero, suc, ◌+◌, ◌*◌, T, eqb, get_or}
use Rattle.std.proofs.Common.{sym, ◌∙◌, ap, ap₂, eqb→eq}
use Rattle.ring.specs.Ring
use Rattle.ring.specs.Ring.{CRing}
use Rattle.ring.specs.Test.{both, both_left, both_right}

-- ── the polynomials

-- `con c d` is the number c − d. `hor a p` is a + x · p, where x is the first variable, which a lacks: a's first variable is the next one.
pub data Pol : Type 0 where
  con : ℕ → ℕ → Pol
  hor : Pol → Pol → Pol

-- a + x · 0, shorter where a is a number
abbrev flat : Pol → Pol
flat (con c d) = con c d
flat (hor a p) = hor (hor a p) (con 0 0)

-- a + x · p
abbrev mk : Pol → Pol → Pol
mk a (con c d) = elim (eqb c d) [ true ↦ flat a | false ↦ hor a (con c d) ]
mk a (hor b q) = hor a (hor b q)

abbrev addc : ℕ → ℕ → Pol → Pol
addc c d (con a b) = con (c + a) (d + b)
addc c d (hor a p) = hor (addc c d a) p

abbrev plus : Pol → Pol → Pol
plus (con c d) q = addc c d q
plus (hor a p) (con c d) = hor (addc c d a) p
plus (hor a p) (hor b q) = mk (plus a b) (plus p q)

abbrev mapc : ℕ → ℕ → Pol → Pol
mapc c d (con a b) = con (c * a + d * b) (c * b + d * a)
mapc c d (hor a p) = hor (mapc c d a) (mapc c d p)

-- (c − d) · p
abbrev scale : ℕ → ℕ → Pol → Pol
scale c d p = elim (eqb c d) [ true ↦ con 0 0 | false ↦ mapc c d p ]

-- a · q, where a lacks q's first variable, and f b is a · b
abbrev down : (Pol → Pol) → Pol → Pol → Pol
down f a (con c d) = flat (scale c d a)
down f a (hor b r) = mk (f b) (down f a r)

abbrev times : Pol → Pol → Pol
times (con c d) q = scale c d q
times (hor a p) q = plus (down (times a) a q) (mk (con 0 0) (times p q))

abbrev minus : Pol → Pol
minus (con c d) = con d c
minus (hor a p) = hor (minus a) (minus p)

abbrev power : Pol → ℕ → Pol
power p zero = con 1 0
power p (suc n) = times p (power p n)

abbrev variable : ℕ → Pol
variable zero = hor (con 0 0) (con 1 0)
variable (suc i) = hor (variable i) (con 0 0)

abbrev null : Pol → Bool
null (con c d) = eqb c d
null (hor a p) = both (null a) (null p)

-- ── the expressions

infixl 65 ◌:+◌ ◌:-◌
infixl 70 ◌:*◌
infixr 75 ◌:^◌
infix 80 :-◌
pub data Ex : Type 0 where
  var : ℕ → Ex
  num : ℕ → Ex
  :0 : Ex
  :1 : Ex
  ◌:+◌ : Ex → Ex → Ex
  ◌:-◌ : Ex → Ex → Ex
  ◌:*◌ : Ex → Ex → Ex
  :-◌ : Ex → Ex
  ◌:^◌ : Ex → ℕ → Ex

abbrev pub norm : Ex → Pol
norm (var i) = variable i
norm (num n) = con n 0
norm :0 = con 0 0
norm :1 = con 1 0
norm (a :+ b) = plus (norm a) (norm b)
norm (a :- b) = plus (norm a) (minus (norm b))
norm (a :* b) = times (norm a) (norm b)
norm (:- a) = minus (norm a)
norm (a :^ n) = power (norm a) n

abbrev pub same : Ex → Ex → Bool
same a b = null (norm (a :- b))

-- ── what they mean, and that normalising does not change it

module _ (R : CRing) where
  open R use {Car, 𝟘, 𝟙, add as ◌⊕◌, mul as ◌⊗◌, neg, add_assoc, add_comm, add-zero, add-neg, mul_assoc, mul_comm, mul-one, mul-add}

  infixl 65 ◌⊕◌
  infixl 70 ◌⊗◌
  abbrev pub eval : (ℕ → Car) → Ex → Car
  eval ρ (var i) = ρ i
  eval ρ (num n) = Ring.cast R n
  eval ρ :0 = 𝟘
  eval ρ :1 = 𝟙
  eval ρ (a :+ b) = eval ρ a ⊕ eval ρ b
  eval ρ (a :- b) = eval ρ a ⊕ neg (eval ρ b)
  eval ρ (a :* b) = eval ρ a ⊗ eval ρ b
  eval ρ (:- a) = neg (eval ρ a)
  eval ρ (a :^ n) = Ring.pow R (eval ρ a) n

  abbrev coef : ℕ → ℕ → Car
  coef c d = Ring.cast R c ⊕ neg (Ring.cast R d)

  abbrev next : (ℕ → Car) → ℕ → Car
  next ρ i = ρ (suc i)

  abbrev ev : (ℕ → Car) → Pol → Car
  ev ρ (con c d) = coef c d
  ev ρ (hor a p) = ev (next ρ) a ⊕ ρ 0 ⊗ ev ρ p

  coef_same : (c d : ℕ) → T (eqb c d) → coef c d ≡ 𝟘
  coef_same c d t = ap (λ x. Ring.cast R x ⊕ neg (Ring.cast R d)) (eqb→eq c d t) ∙ add-neg (Ring.cast R d)

  coef_zero : coef 0 0 ≡ 𝟘
  coef_zero = coef_same 0 0 tt

  swap4 : (a b c d : Car) → (a ⊕ b) ⊕ (c ⊕ d) ≡ (a ⊕ c) ⊕ (b ⊕ d)
  swap4 a b c d = add_assoc a b (c ⊕ d) ∙ ap (λ x. a ⊕ x) (Ring.add_left_comm R b c d) ∙ sym (add_assoc a c (b ⊕ d))

  coef_add : (c d a b : ℕ) → coef (c + a) (d + b) ≡ coef c d ⊕ coef a b
  coef_add c d a b =
      ap₂ ◌⊕◌ (Ring.cast_add R c a) (ap neg (Ring.cast_add R d b) ∙ Ring.neg-add R (Ring.cast R d) (Ring.cast R b))
      ∙ swap4 _ _ _ _

  -- (c − d)(a − b)
  four : (c d a b : Car) → (c ⊕ neg d) ⊗ (a ⊕ neg b) ≡ (c ⊗ a ⊕ d ⊗ b) ⊕ neg (c ⊗ b ⊕ d ⊗ a)
  four c d a b =
      simp (Ring.add-mul R, mul-add, Ring.mul-neg R, Ring.neg-mul R, Ring.neg-neg R, Ring.neg-add R)
      (add_assoc _ _ _ ∙ ap (λ x. c ⊗ a ⊕ x) (ap (λ x. neg (c ⊗ b) ⊕ x) (add_comm _ _) ∙ Ring.add_left_comm R _ _ _) ∙ sym (add_assoc _ _ _))

  coef_mul : (c d a b : ℕ) → coef (c * a + d * b) (c * b + d * a) ≡ coef c d ⊗ coef a b
  coef_mul c d a b = ap₂ (λ x y. x ⊕ neg y) (go c a d b) (go c b d a) ∙ sym (four _ _ _ _)
    where
      go : (m n k l : ℕ) → Ring.cast R (m * n + k * l) ≡ Ring.cast R m ⊗ Ring.cast R n ⊕ Ring.cast R k ⊗ Ring.cast R l
      go m n k l = Ring.cast_add R (m * n) (k * l) ∙ ap₂ ◌⊕◌ (Ring.cast_mul R m n) (Ring.cast_mul R k l)

  flat_ok : (ρ : ℕ → Car) (a : Pol) → ev ρ (flat a) ≡ ev (next ρ) a
  flat_ok ρ (con c d) = refl
  flat_ok ρ (hor a p) = ap (λ x. ev (next ρ) (hor a p) ⊕ x) (ap (λ x. ρ 0 ⊗ x) coef_zero ∙ Ring.mul-zero R (ρ 0)) ∙ add-zero _

  mk_ok : (ρ : ℕ → Car) (a p : Pol) → ev ρ (mk a p) ≡ ev (next ρ) a ⊕ ρ 0 ⊗ ev ρ p
  mk_ok ρ a (con c d) = go (eqb c d) refl
    where
      go : (b : Bool) → eqb c d ≡ b → ev ρ (elim b [ true ↦ flat a | false ↦ hor a (con c d) ]) ≡ ev (next ρ) a ⊕ ρ 0 ⊗ coef c d
      go true e =
          flat_ok ρ a
          ∙ sym (ap (λ x. ev (next ρ) a ⊕ x) (ap (λ x. ρ 0 ⊗ x) (coef_same c d (rw e tt)) ∙ Ring.mul-zero R (ρ 0)) ∙ add-zero _)
      go false e = refl
  mk_ok ρ a (hor b q) = refl

  addc_ok : (ρ : ℕ → Car) (c d : ℕ) (p : Pol) → ev ρ (addc c d p) ≡ coef c d ⊕ ev ρ p
  addc_ok ρ c d (con a b) = coef_add c d a b
  addc_ok ρ c d (hor a p) = ap (λ x. x ⊕ ρ 0 ⊗ ev ρ p) (addc_ok (next ρ) c d a) ∙ add_assoc _ _ _

  plus_ok : (ρ : ℕ → Car) (p q : Pol) → ev ρ (plus p q) ≡ ev ρ p ⊕ ev ρ q
  plus_ok ρ (con c d) q = addc_ok ρ c d q
  plus_ok ρ (hor a p) (con c d) =
      ap (λ x. x ⊕ ρ 0 ⊗ ev ρ p) (addc_ok (next ρ) c d a) ∙ add_assoc _ _ _ ∙ add_comm _ _
  plus_ok ρ (hor a p) (hor b q) =
      mk_ok ρ (plus a b) (plus p q)
      ∙ ap₂ (λ x y. x ⊕ ρ 0 ⊗ y) (plus_ok (next ρ) a b) (plus_ok ρ p q)
      ∙ ap (λ x. ev (next ρ) a ⊕ ev (next ρ) b ⊕ x) (mul-add (ρ 0) (ev ρ p) (ev ρ q))
      ∙ swap4 _ _ _ _

  mapc_ok : (ρ : ℕ → Car) (c d : ℕ) (p : Pol) → ev ρ (mapc c d p) ≡ coef c d ⊗ ev ρ p
  mapc_ok ρ c d (con a b) = coef_mul c d a b
  mapc_ok ρ c d (hor a p) =
      ap₂ (λ x y. x ⊕ ρ 0 ⊗ y) (mapc_ok (next ρ) c d a) (mapc_ok ρ c d p)
      ∙ ap (λ x. coef c d ⊗ ev (next ρ) a ⊕ x) (Ring.mul_left_comm R (ρ 0) (coef c d) (ev ρ p))
      ∙ sym (mul-add (coef c d) _ _)

  scale_ok : (ρ : ℕ → Car) (c d : ℕ) (p : Pol) → ev ρ (scale c d p) ≡ coef c d ⊗ ev ρ p
  scale_ok ρ c d p = go (eqb c d) refl
    where
      go : (b : Bool) → eqb c d ≡ b → ev ρ (elim b [ true ↦ con 0 0 | false ↦ mapc c d p ]) ≡ coef c d ⊗ ev ρ p
      go true e = coef_zero ∙ sym (ap (λ x. x ⊗ ev ρ p) (coef_same c d (rw e tt)) ∙ Ring.zero-mul R (ev ρ p))
      go false e = mapc_ok ρ c d p

  down_ok : (ρ : ℕ → Car) (f : Pol → Pol) (a : Pol) → ((b : Pol) → ev (next ρ) (f b) ≡ ev (next ρ) a ⊗ ev (next ρ) b)
      → (q : Pol) → ev ρ (down f a q) ≡ ev (next ρ) a ⊗ ev ρ q
  down_ok ρ f a h (con c d) = flat_ok ρ (scale c d a) ∙ scale_ok (next ρ) c d a ∙ mul_comm _ _
  down_ok ρ f a h (hor b r) =
      mk_ok ρ (f b) (down f a r)
      ∙ ap₂ (λ x y. x ⊕ ρ 0 ⊗ y) (h b) (down_ok ρ f a h r)
      ∙ ap (λ x. ev (next ρ) a ⊗ ev (next ρ) b ⊕ x) (Ring.mul_left_comm R (ρ 0) _ _)
      ∙ sym (mul-add _ _ _)

  times_ok : (ρ : ℕ → Car) (p q : Pol) → ev ρ (times p q) ≡ ev ρ p ⊗ ev ρ q
  times_ok ρ (con c d) q = scale_ok ρ c d q
  times_ok ρ (hor a p) q =
      plus_ok ρ (down (times a) a q) (mk (con 0 0) (times p q))
      ∙ ap₂ ◌⊕◌ (down_ok ρ (times a) a (times_ok (next ρ) a) q)
      (mk_ok ρ (con 0 0) (times p q) ∙ ap₂ (λ x y. x ⊕ ρ 0 ⊗ y) coef_zero (times_ok ρ p q) ∙ Ring.zero-add R _ ∙ sym (mul_assoc _ _ _))
      ∙ sym (Ring.add-mul R _ _ _)

  minus_ok : (ρ : ℕ → Car) (p : Pol) → ev ρ (minus p) ≡ neg (ev ρ p)
  minus_ok ρ (con c d) = add_comm _ _ ∙ ap (λ x. neg (Ring.cast R c) ⊕ x) (sym (Ring.neg-neg R _)) ∙ sym (Ring.neg-add R _ _)
  minus_ok ρ (hor a p) =
      ap₂ (λ x y. x ⊕ ρ 0 ⊗ y) (minus_ok (next ρ) a) (minus_ok ρ p)
      ∙ ap (λ x. neg (ev (next ρ) a) ⊕ x) (Ring.mul-neg R _ _)
      ∙ sym (Ring.neg-add R _ _)

  one_ok : (n : ℕ) → coef n 0 ≡ Ring.cast R n
  one_ok n = ap (λ x. Ring.cast R n ⊕ x) (ap neg (Ring.cast_zero R) ∙ Ring.neg-zero R) ∙ add-zero _

  power_ok : (ρ : ℕ → Car) (p : Pol) (n : ℕ) → ev ρ (power p n) ≡ Ring.pow R (ev ρ p) n
  power_ok ρ p zero = one_ok 1 ∙ Ring.cast_one R ∙ sym (Ring.pow-zero R _)
  power_ok ρ p (suc n) = times_ok ρ p (power p n) ∙ ap (λ x. ev ρ p ⊗ x) (power_ok ρ p n) ∙ sym (Ring.pow-suc R _ n)

  variable_ok : (ρ : ℕ → Car) (i : ℕ) → ev ρ (variable i) ≡ ρ i
  variable_ok ρ zero = ap₂ (λ x y. x ⊕ ρ 0 ⊗ y) coef_zero (one_ok 1 ∙ Ring.cast_one R) ∙ Ring.zero-add R _ ∙ mul-one _
  variable_ok ρ (suc i) =
      ap₂ ◌⊕◌ (variable_ok (next ρ) i) (ap (λ x. ρ 0 ⊗ x) coef_zero ∙ Ring.mul-zero R (ρ 0)) ∙ add-zero _

  norm_ok : (ρ : ℕ → Car) (e : Ex) → ev ρ (norm e) ≡ eval ρ e
  norm_ok ρ (var i) = variable_ok ρ i
  norm_ok ρ (num n) = one_ok n
  norm_ok ρ :0 = coef_zero
  norm_ok ρ :1 = one_ok 1 ∙ Ring.cast_one R
  norm_ok ρ (a :+ b) = plus_ok ρ (norm a) (norm b) ∙ ap₂ ◌⊕◌ (norm_ok ρ a) (norm_ok ρ b)
  norm_ok ρ (a :- b) =
      plus_ok ρ (norm a) (minus (norm b)) ∙ ap₂ ◌⊕◌ (norm_ok ρ a) (minus_ok ρ (norm b) ∙ ap neg (norm_ok ρ b))
  norm_ok ρ (a :* b) = times_ok ρ (norm a) (norm b) ∙ ap₂ ◌⊗◌ (norm_ok ρ a) (norm_ok ρ b)
  norm_ok ρ (:- a) = minus_ok ρ (norm a) ∙ ap neg (norm_ok ρ a)
  norm_ok ρ (a :^ n) = power_ok ρ (norm a) n ∙ ap (λ x. Ring.pow R x n) (norm_ok ρ a)

  null_ok : (ρ : ℕ → Car) (p : Pol) → T (null p) → ev ρ p ≡ 𝟘
  null_ok ρ (con c d) t = coef_same c d t
  null_ok ρ (hor a p) t =
      ap₂ (λ x y. x ⊕ ρ 0 ⊗ y) (null_ok (next ρ) a (both_left (null a) (null p) t)) (null_ok ρ p (both_right (null a) (null p) t))
      ∙ Ring.zero-add R _ ∙ Ring.mul-zero R _

  pub ring : (ρ : ℕ → Car) (a b : Ex) → T (same a b) → eval ρ a ≡ eval ρ b
  ring ρ a b t = Ring.sub-zero R _ _ (sym (norm_ok ρ (a :- b)) ∙ null_ok ρ (norm (a :- b)) t)

  -- what the variables 0, 1, .. stand for
  abbrev pub at : List Car → ℕ → Car
  at l i = get_or l i 𝟘

  -- For use: `solve2 R (λ x y. x :+ y) (λ x y. y :+ x) tt a b : a ⊕ b ≡ b ⊕ a`. For more variables, `ring R (at R (a ∷ b ∷ ..)) l r tt`.
  pub solve1 : (φ ψ : Ex → Ex) → T (same (φ (var 0)) (ψ (var 0)))
      → (a : Car) → eval (at (a ∷ [])) (φ (var 0)) ≡ eval (at (a ∷ [])) (ψ (var 0))
  solve1 φ ψ t a = ring (at (a ∷ [])) (φ (var 0)) (ψ (var 0)) t

  pub solve2 : (φ ψ : Ex → Ex → Ex) → T (same (φ (var 0) (var 1)) (ψ (var 0) (var 1)))
      → (a b : Car) → eval (at (a ∷ b ∷ [])) (φ (var 0) (var 1)) ≡ eval (at (a ∷ b ∷ [])) (ψ (var 0) (var 1))
  solve2 φ ψ t a b = ring (at (a ∷ b ∷ [])) (φ (var 0) (var 1)) (ψ (var 0) (var 1)) t

  pub solve3 : (φ ψ : Ex → Ex → Ex → Ex) → T (same (φ (var 0) (var 1) (var 2)) (ψ (var 0) (var 1) (var 2)))
      → (a b c : Car) → eval (at (a ∷ b ∷ c ∷ [])) (φ (var 0) (var 1) (var 2)) ≡ eval (at (a ∷ b ∷ c ∷ [])) (ψ (var 0) (var 1) (var 2))
  solve3 φ ψ t a b c = ring (at (a ∷ b ∷ c ∷ [])) (φ (var 0) (var 1) (var 2)) (ψ (var 0) (var 1) (var 2)) t

  pub solve4 : (φ ψ : Ex → Ex → Ex → Ex → Ex) → T (same (φ (var 0) (var 1) (var 2) (var 3)) (ψ (var 0) (var 1) (var 2) (var 3)))
      → (a b c d : Car) → eval (at (a ∷ b ∷ c ∷ d ∷ [])) (φ (var 0) (var 1) (var 2) (var 3)) ≡ eval (at (a ∷ b ∷ c ∷ d ∷ []))
      (ψ (var 0) (var 1) (var 2) (var 3))
  solve4 φ ψ t a b c d = ring (at (a ∷ b ∷ c ∷ d ∷ [])) (φ (var 0) (var 1) (var 2) (var 3)) (ψ (var 0) (var 1) (var 2) (var 3)) t

  pub solve5 : (φ ψ : Ex → Ex → Ex → Ex → Ex → Ex) → T (same (φ (var 0) (var 1) (var 2) (var 3) (var 4)) (ψ (var 0) (var 1) (var 2) (var 3) (var 4)))
      → (a b c d e : Car) → eval (at (a ∷ b ∷ c ∷ d ∷ e ∷ [])) (φ (var 0) (var 1) (var 2) (var 3) (var 4)) ≡ eval (at (a ∷ b ∷ c ∷ d ∷ e ∷ []))
      (ψ (var 0) (var 1) (var 2) (var 3) (var 4))
  solve5 φ ψ t a b c d e = ring (at (a ∷ b ∷ c ∷ d ∷ e ∷ [])) (φ (var 0) (var 1) (var 2) (var 3) (var 4)) (ψ (var 0) (var 1) (var 2) (var 3) (var 4)) t

  pub solve6 : (φ ψ : Ex → Ex → Ex → Ex → Ex → Ex → Ex) → T (same (φ (var 0) (var 1) (var 2) (var 3) (var 4) (var 5))
      (ψ (var 0) (var 1) (var 2) (var 3) (var 4) (var 5)))
      → (a b c d e f : Car) → eval (at (a ∷ b ∷ c ∷ d ∷ e ∷ f ∷ [])) (φ (var 0) (var 1) (var 2) (var 3) (var 4) (var 5)) ≡ eval
      (at (a ∷ b ∷ c ∷ d ∷ e ∷ f ∷ [])) (ψ (var 0) (var 1) (var 2) (var 3) (var 4) (var 5))
  solve6 φ ψ t a b c d e f = ring (at (a ∷ b ∷ c ∷ d ∷ e ∷ f ∷ [])) (φ (var 0) (var 1) (var 2) (var 3) (var 4) (var 5))
      (ψ (var 0) (var 1) (var 2) (var 3) (var 4) (var 5)) t

  pub solve7 : (φ ψ : Ex → Ex → Ex → Ex → Ex → Ex → Ex → Ex) → T
      (same (φ (var 0) (var 1) (var 2) (var 3) (var 4) (var 5) (var 6)) (ψ (var 0) (var 1) (var 2) (var 3) (var 4) (var 5) (var 6)))
      → (a b c d e f g : Car) → eval (at (a ∷ b ∷ c ∷ d ∷ e ∷ f ∷ g ∷ [])) (φ (var 0) (var 1) (var 2) (var 3) (var 4) (var 5) (var 6)) ≡ eval
      (at (a ∷ b ∷ c ∷ d ∷ e ∷ f ∷ g ∷ [])) (ψ (var 0) (var 1) (var 2) (var 3) (var 4) (var 5) (var 6))
  solve7 φ ψ t a b c d e f g = ring (at (a ∷ b ∷ c ∷ d ∷ e ∷ f ∷ g ∷ [])) (φ (var 0) (var 1) (var 2) (var 3) (var 4) (var 5) (var 6))
      (ψ (var 0) (var 1) (var 2) (var 3) (var 4) (var 5) (var 6)) t

  pub solve8 : (φ ψ : Ex → Ex → Ex → Ex → Ex → Ex → Ex → Ex → Ex) → T
      (same (φ (var 0) (var 1) (var 2) (var 3) (var 4) (var 5) (var 6) (var 7)) (ψ (var 0) (var 1) (var 2) (var 3) (var 4) (var 5) (var 6) (var 7)))
      → (a b c d e f g h : Car) → eval (at (a ∷ b ∷ c ∷ d ∷ e ∷ f ∷ g ∷ h ∷ [])) (φ (var 0) (var 1) (var 2) (var 3) (var 4) (var 5) (var 6) (var 7)) ≡ eval
      (at (a ∷ b ∷ c ∷ d ∷ e ∷ f ∷ g ∷ h ∷ [])) (ψ (var 0) (var 1) (var 2) (var 3) (var 4) (var 5) (var 6) (var 7))
  solve8 φ ψ t a b c d e f g h = ring (at (a ∷ b ∷ c ∷ d ∷ e ∷ f ∷ g ∷ h ∷ [])) (φ (var 0) (var 1) (var 2) (var 3) (var 4) (var 5) (var 6) (var 7))
      (ψ (var 0) (var 1) (var 2) (var 3) (var 4) (var 5) (var 6) (var 7)) t

  -- From hypotheses a = b, and the identity l − r = c (a − b): as Lean's `linear_combination`. The identity is a `solve`'s.
  pub combine1 : (l r c a b : Car) → a ≡ b → l ⊕ neg r ≡ c ⊗ (a ⊕ neg b) → l ≡ r
  combine1 l r c a b e h =
      Ring.sub-zero R l r (h ∙ ap (λ x. c ⊗ (x ⊕ neg b)) e ∙ solve2 (λ c b. c :* (b :- b)) (λ c b. :0) tt c b)

  pub combine2 : (l r c a b c' a' b' : Car) → a ≡ b → a' ≡ b' → l ⊕ neg r ≡ c ⊗ (a ⊕ neg b) ⊕ c' ⊗ (a' ⊕ neg b') → l ≡ r
  combine2 l r c a b c' a' b' e e' h =
      Ring.sub-zero R l r
      (h ∙ ap₂ (λ x y. c ⊗ (x ⊕ neg b) ⊕ c' ⊗ (y ⊕ neg b')) e e'
      ∙ solve4 (λ c b d a. c :* (b :- b) :+ d :* (a :- a)) (λ c b d a. :0) tt c b c' b')

  -- the same over expressions, the identity by computing
  pub linear2 : (ρ : ℕ → Car) (a b c x y c' x' y' : Ex) → eval ρ x ≡ eval ρ y → eval ρ x' ≡ eval ρ y'
      → T (same (a :- b) (c :* (x :- y) :+ c' :* (x' :- y'))) → eval ρ a ≡ eval ρ b
  linear2 ρ a b c x y c' x' y' h h' t = combine2 _ _ _ _ _ _ _ _ h h' (ring ρ (a :- b) (c :* (x :- y) :+ c' :* (x' :- y')) t)

  pub linear3 : (ρ : ℕ → Car) (a b c x y c' x' y' c'' x'' y'' : Ex) → eval ρ x ≡ eval ρ y → eval ρ x' ≡ eval ρ y' → eval ρ x'' ≡ eval ρ y''
      → T (same (a :- b) (c :* (x :- y) :+ c' :* (x' :- y') :+ c'' :* (x'' :- y''))) → eval ρ a ≡ eval ρ b
  linear3 ρ a b c x y c' x' y' c'' x'' y'' h h' h'' t =
      Ring.sub-zero R _ _
      (ring ρ (a :- b) (c :* (x :- y) :+ c' :* (x' :- y') :+ c'' :* (x'' :- y'')) t
      ∙ ap₂ (λ p q. p ⊕ eval ρ c'' ⊗ q)
      (ap₂ (λ p q. eval ρ c ⊗ p ⊕ eval ρ c' ⊗ q) (ap (λ z. z ⊕ neg (eval ρ y)) h ∙ add-neg _) (ap (λ z. z ⊕ neg (eval ρ y')) h' ∙ add-neg _))
      (ap (λ z. z ⊕ neg (eval ρ y'')) h'' ∙ add-neg _)
      ∙ solve3 (λ c d e. c :* :0 :+ d :* :0 :+ e :* :0) (λ c d e. :0) tt (eval ρ c) (eval ρ c') (eval ρ c''))
