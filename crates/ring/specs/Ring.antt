-- Commutative rings: a bundle, the few laws that follow by hand, and the numbers n · 1 and the powers of a ring.
-- What else holds in every commutative ring is proved by computing: `Identity`, `solve1` ...
-- Assumes nothing.
use Rattle.std.specs.Prelude.{◌≡◌, ℕ, zero, suc, ◌+◌, ◌*◌}
use Rattle.std.proofs.Math.Path.{refl}
use Rattle.std.proofs.Common.{sym, ◌∙◌, ap, ap₂}
use Rattle.std.proofs.Math.Nat as N

pub record CRing : Type 1 where
  pub Car : Type 0
  pub is_set : IsSet Car
  pub 𝟘 : Car
  pub 𝟙 : Car
  pub add : Car → Car → Car
  pub mul : Car → Car → Car
  pub neg : Car → Car
  pub add_assoc : (a b c : Car) → add (add a b) c ≡ add a (add b c)
  pub add_comm : (a b : Car) → add a b ≡ add b a
  pub add-zero : (a : Car) → add a 𝟘 ≡ a
  pub add-neg : (a : Car) → add a (neg a) ≡ 𝟘
  pub mul_assoc : (a b c : Car) → mul (mul a b) c ≡ mul a (mul b c)
  pub mul_comm : (a b : Car) → mul a b ≡ mul b a
  pub mul-one : (a : Car) → mul a 𝟙 ≡ a
  pub mul-add : (a b c : Car) → mul a (add b c) ≡ add (mul a b) (mul a c)

module _ (R : CRing) where
  open R use {Car, 𝟘, 𝟙, add as ◌⊕◌, mul as ◌⊗◌, neg, add_assoc, add_comm, add-zero, add-neg, mul_assoc, mul_comm, mul-one, mul-add}

  infixl 65 ◌⊕◌
  infixl 70 ◌⊗◌
  pub zero-add : (a : Car) → 𝟘 ⊕ a ≡ a
  zero-add a = add_comm 𝟘 a ∙ add-zero a

  pub add_left_comm : (a b c : Car) → a ⊕ (b ⊕ c) ≡ b ⊕ (a ⊕ c)
  add_left_comm a b c = sym (add_assoc a b c) ∙ ap (λ x. x ⊕ c) (add_comm a b) ∙ add_assoc b a c

  pub add_right_cancel : (a b c : Car) → a ⊕ c ≡ b ⊕ c → a ≡ b
  add_right_cancel a b c e = sym (up a) ∙ ap (λ x. x ⊕ neg c) e ∙ up b
    where
      up : (x : Car) → x ⊕ c ⊕ neg c ≡ x
      up x = add_assoc x c (neg c) ∙ ap (λ y. x ⊕ y) (add-neg c) ∙ add-zero x

  pub neg_unique : (a b : Car) → a ⊕ b ≡ 𝟘 → b ≡ neg a
  neg_unique a b e = add_right_cancel b (neg a) a (add_comm b a ∙ e ∙ sym (add-neg a) ∙ add_comm a (neg a))

  pub neg-zero : neg 𝟘 ≡ 𝟘
  neg-zero = sym (neg_unique 𝟘 𝟘 (add-zero 𝟘))

  pub add-mul : (a b c : Car) → (a ⊕ b) ⊗ c ≡ a ⊗ c ⊕ b ⊗ c
  add-mul a b c = mul_comm (a ⊕ b) c ∙ mul-add c a b ∙ ap₂ ◌⊕◌ (mul_comm c a) (mul_comm c b)

  pub mul-zero : (a : Car) → a ⊗ 𝟘 ≡ 𝟘
  mul-zero a = add_right_cancel (a ⊗ 𝟘) 𝟘 (a ⊗ 𝟘) (sym (mul-add a 𝟘 𝟘) ∙ ap (λ x. a ⊗ x) (add-zero 𝟘) ∙ sym (zero-add (a ⊗ 𝟘)))

  pub zero-mul : (a : Car) → 𝟘 ⊗ a ≡ 𝟘
  zero-mul a = mul_comm 𝟘 a ∙ mul-zero a

  pub one-mul : (a : Car) → 𝟙 ⊗ a ≡ a
  one-mul a = mul_comm 𝟙 a ∙ mul-one a

  pub mul_left_comm : (a b c : Car) → a ⊗ (b ⊗ c) ≡ b ⊗ (a ⊗ c)
  mul_left_comm a b c = sym (mul_assoc a b c) ∙ ap (λ x. x ⊗ c) (mul_comm a b) ∙ mul_assoc b a c

  pub neg-add : (a b : Car) → neg (a ⊕ b) ≡ neg a ⊕ neg b
  neg-add a b = sym (neg_unique (a ⊕ b) (neg a ⊕ neg b)
      (add_assoc a b (neg a ⊕ neg b)
      ∙ ap (λ x. a ⊕ x) (add_left_comm b (neg a) (neg b) ∙ ap (λ x. neg a ⊕ x) (add-neg b) ∙ add-zero (neg a))
      ∙ add-neg a))

  pub neg-neg : (a : Car) → neg (neg a) ≡ a
  neg-neg a = sym (neg_unique (neg a) a (add_comm (neg a) a ∙ add-neg a))

  pub mul-neg : (a b : Car) → a ⊗ neg b ≡ neg (a ⊗ b)
  mul-neg a b = neg_unique (a ⊗ b) (a ⊗ neg b) (sym (mul-add a b (neg b)) ∙ ap (λ x. a ⊗ x) (add-neg b) ∙ mul-zero a)

  pub neg-mul : (a b : Car) → neg a ⊗ b ≡ neg (a ⊗ b)
  neg-mul a b = mul_comm (neg a) b ∙ mul-neg b a ∙ ap neg (mul_comm b a)

  pub sub-zero : (a b : Car) → a ⊕ neg b ≡ 𝟘 → a ≡ b
  sub-zero a b e = add_right_cancel a b (neg b) (e ∙ sym (add-neg b))

  -- n · 1
  unfoldable pub cast : ℕ → Car
  cast zero = 𝟘
  cast (suc n) = cast n ⊕ 𝟙

  pub cast_zero : cast 0 ≡ 𝟘
  unfolding cast
  cast_zero = refl

  pub cast_suc : (n : ℕ) → cast (suc n) ≡ cast n ⊕ 𝟙
  unfolding cast
  cast_suc n = refl

  pub cast_one : cast 1 ≡ 𝟙
  unfolding cast
  cast_one = zero-add 𝟙

  pub cast_add : (m n : ℕ) → cast (m + n) ≡ cast m ⊕ cast n
  cast_add m zero = ap cast (N.add-zero m) ∙ sym (ap (λ x. cast m ⊕ x) cast_zero ∙ add-zero (cast m))
  cast_add m (suc n) =
      ap cast (N.add-suc m n) ∙ cast_suc (m + n) ∙ ap (λ x. x ⊕ 𝟙) (cast_add m n) ∙ add_assoc (cast m) (cast n) 𝟙
      ∙ ap (λ x. cast m ⊕ x) (sym (cast_suc n))

  pub cast_mul : (m n : ℕ) → cast (m * n) ≡ cast m ⊗ cast n
  cast_mul m zero = ap cast (N.mul-zero m) ∙ cast_zero ∙ sym (ap (λ x. cast m ⊗ x) cast_zero ∙ mul-zero (cast m))
  cast_mul m (suc n) =
      ap cast (N.mul-suc m n) ∙ cast_add (m * n) m ∙ ap₂ ◌⊕◌ (cast_mul m n) (sym (mul-one (cast m)))
      ∙ sym (mul-add (cast m) (cast n) 𝟙) ∙ ap (λ x. cast m ⊗ x) (sym (cast_suc n))

  -- a ^ n
  unfoldable pub pow : Car → ℕ → Car
  pow a zero = 𝟙
  pow a (suc n) = a ⊗ pow a n

  pub pow-zero : (a : Car) → pow a 0 ≡ 𝟙
  unfolding pow
  pow-zero a = refl

  pub pow-suc : (a : Car) (n : ℕ) → pow a (suc n) ≡ a ⊗ pow a n
  unfolding pow
  pow-suc a n = refl

  pub pow-add : (a : Car) (m n : ℕ) → pow a (m + n) ≡ pow a m ⊗ pow a n
  pow-add a zero n = ap (pow a) (N.zero-add n) ∙ sym (ap (λ x. x ⊗ pow a n) (pow-zero a) ∙ one-mul (pow a n))
  pow-add a (suc m) n =
      ap (pow a) (N.suc-add m n) ∙ pow-suc a (m + n) ∙ ap (λ x. a ⊗ x) (pow-add a m n) ∙ sym (mul_assoc a (pow a m) (pow a n))
      ∙ ap (λ x. x ⊗ pow a n) (sym (pow-suc a m))
