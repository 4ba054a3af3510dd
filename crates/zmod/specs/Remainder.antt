-- Remainders and sizes of products of natural numbers, as far as the toolchain's library does not have them.
-- Assumes nothing.
use Rattle.std.specs.Prelude.{◌≡◌, ℕ, ◌+◌, ◌*◌, ◌^◌, ◌%◌, ◌/◌, ◌<◌}
use Rattle.std.proofs.Common.{sym, ◌∙◌, ap, pow-add, pow_pos}
use Rattle.std.proofs.Math.Path.{subst⁻¹}
use Rattle.std.proofs.Math.Nat as N

pub mul_mod_right : (a b m : ℕ) → (a * (b % m)) % m ≡ (a * b) % m
mul_mod_right a b m = sym (ap (λ x. x % m) split ∙ N.add-mul-mod_self_left (a * (b % m)) m (a * (b / m)))
  where
    split : a * b ≡ a * (b % m) + m * (a * (b / m))
    split =
        ap (λ x. a * x) (sym (N.mod-add-div b m)) ∙ N.mul-add a (b % m) (m * (b / m))
        ∙ ap (λ x. a * (b % m) + x) (N.mul_left_comm a m (b / m))

pub mul_mod_left : (a b m : ℕ) → ((a % m) * b) % m ≡ (a * b) % m
mul_mod_left a b m = ap (λ x. x % m) (N.mul_comm (a % m) b) ∙ mul_mod_right b a m ∙ ap (λ x. x % m) (N.mul_comm b a)

-- the product of two numbers of k bits has 2 k bits
pub product_below : (k : ℕ) {a b : ℕ} → a < 2 ^ k → b < 2 ^ k → a * b < 2 ^ (k + k)
product_below k {a} {b} ha hb =
    subst⁻¹ (λ (n : ℕ). a * b < n) (pow-add 2 k k)
    (N.lt_of_le_of_lt (N.mul-le-mul_left a (N.le_of_lt hb)) (N.mul-lt-mul_of_pos_right ha (pow_pos k)))
