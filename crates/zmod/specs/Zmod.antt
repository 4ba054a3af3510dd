-- The integers modulo p as a commutative ring `Zmod p`, for every natural number p. (For p = 0 the modulus is read as 1, so that the ring needs no
-- proof about p: what is said of residues below asks for 0 < p.)
-- An element is a natural number that is its own remainder: `val` reads it, `mk p n` is the class of any natural number n. `mk` respects sums and
-- products and is onto, so what code says of `% p` becomes an equation of the ring, and back by `mk_eq` and `eq_mk`.
-- Assumes nothing.
use Rattle.std.specs.Prelude.{◌≡◌, ◌≢◌, ℕ, zero, suc, ◌+◌, ◌*◌, ◌-◌, ◌^◌, ◌<◌, ◌≤◌, ◌%◌, max}
use Rattle.std.proofs.Math.Path.{refl, sym, ap}
use Rattle.std.proofs.Common.{◌∙◌, ap₂, subst, mod-lt, arith}
use mathlib.Core.HLevel.{Σ_prop_path, Σ_set, prop→set}
use Rattle.std.proofs.Math.Nat as N
use Rattle.std.proofs.Math.Nat.{ℕ_set, mod-mod, mod_self, zero-mod, mod-add-mod, add-mod-mod}
use Rattle.std.proofs.Math.Decide.{ℕ_discrete}
use Rattle.ring.specs.Ring
use Rattle.ring.specs.Ring.{CRing, cast, cast_suc, cast_zero, pow, pow-zero, pow-suc}
use Rattle.zmod.specs.Remainder.{mul_mod_right, mul_mod_left}

-- p itself, but for p = 0
unfoldable pub modulus : ℕ → ℕ
modulus p = max 1 p

pub modulus_is : {p : ℕ} → 0 < p → modulus p ≡ p
unfolding modulus
modulus_is h = omega arith

pub modulus_pos : (p : ℕ) → 0 < modulus p
unfolding modulus
modulus_pos p = omega arith

module _ (p : ℕ) where
  abbrev pub Elt : Type 0
  Elt = (n : ℕ) × (n % modulus p ≡ n)

  abbrev pub val : Elt → ℕ
  val x = x.0

  pub val_path : {x y : Elt} → val x ≡ val y → x ≡ y
  val_path e = Σ_prop_path (λ n. ℕ_set (n % modulus p) n) e

  pub same? : (x y : Elt) → Dec (x ≡ y)
  same? x y = go (ℕ_discrete (val x) (val y))
    where
      go : Dec (val x ≡ val y) → Dec (x ≡ y)
      go (yes e) = yes (val_path e)
      go (no h) = no (λ e. h (ap val e))

  -- the class of n
  unfoldable pub mk : ℕ → Elt
  mk n = (n % modulus p, mod-mod n (modulus p))

  pub val-mk : (n : ℕ) → val (mk n) ≡ n % modulus p
  unfolding mk
  val-mk n = refl

  pub mk-val : (x : Elt) → mk (val x) ≡ x
  unfolding mk
  mk-val x = val_path x.1

  mk_same : (m n : ℕ) → m % modulus p ≡ n % modulus p → mk m ≡ mk n
  unfolding mk
  mk_same m n e = val_path e

  unfoldable pub plus : Elt → Elt → Elt
  plus x y = mk (val x + val y)

  unfoldable pub times : Elt → Elt → Elt
  times x y = mk (val x * val y)

  unfoldable pub minus : Elt → Elt
  minus x = mk (modulus p - val x)

  pub mk_add : (m n : ℕ) → mk (m + n) ≡ plus (mk m) (mk n)
  unfolding plus
  mk_add m n = rw (val-mk m, val-mk n) (mk_same _ _ (sym (mod-add-mod m (modulus p) (n % modulus p) ∙ add-mod-mod m n (modulus p))))

  pub mk_mul : (m n : ℕ) → mk (m * n) ≡ times (mk m) (mk n)
  unfolding times
  mk_mul m n = rw (val-mk m, val-mk n) (mk_same _ _ (sym (mul_mod_left m (n % modulus p) (modulus p) ∙ mul_mod_right m n (modulus p))))

  pub mk_combination : (l x m y n z : ℕ) → mk (l * x + m * y + n * z) ≡ plus (plus (times (mk l) (mk x)) (times (mk m) (mk y))) (times (mk n) (mk z))
  mk_combination l x m y n z =
      mk_add (l * x + m * y) (n * z) ∙ ap₂ plus (mk_add (l * x) (m * y) ∙ ap₂ plus (mk_mul l x) (mk_mul m y)) (mk_mul n z)

  -- what holds at every `mk n` holds at every element
  pub onto : (P : Elt → Type 0) → ((n : ℕ) → P (mk n)) → (x : Elt) → P x
  onto P h x = subst P (mk-val x) (h (val x))

  pub plus_assoc : (a b c : Elt) → plus (plus a b) c ≡ plus a (plus b c)
  plus_assoc = onto _ λ a. onto _ λ b. onto _ λ c.
      sym (mk_add (a + b) c ∙ ap (λ x. plus x (mk c)) (mk_add a b)) ∙ ap mk (N.add_assoc a b c) ∙ mk_add a (b + c)
      ∙ ap (λ x. plus (mk a) x) (mk_add b c)

  pub plus_comm : (a b : Elt) → plus a b ≡ plus b a
  plus_comm = onto _ λ a. onto _ λ b. sym (mk_add a b) ∙ ap mk (N.add_comm a b) ∙ mk_add b a

  pub plus_zero : (a : Elt) → plus a (mk 0) ≡ a
  plus_zero = onto _ λ a. sym (mk_add a 0) ∙ ap mk (N.add-zero a)

  pub times_assoc : (a b c : Elt) → times (times a b) c ≡ times a (times b c)
  times_assoc = onto _ λ a. onto _ λ b. onto _ λ c.
      sym (mk_mul (a * b) c ∙ ap (λ x. times x (mk c)) (mk_mul a b)) ∙ ap mk (N.mul_assoc a b c) ∙ mk_mul a (b * c)
      ∙ ap (λ x. times (mk a) x) (mk_mul b c)

  pub times_comm : (a b : Elt) → times a b ≡ times b a
  times_comm = onto _ λ a. onto _ λ b. sym (mk_mul a b) ∙ ap mk (N.mul_comm a b) ∙ mk_mul b a

  pub times_one : (a : Elt) → times a (mk 1) ≡ a
  times_one = onto _ λ a. sym (mk_mul a 1) ∙ ap mk (N.mul-one a)

  pub times_plus : (a b c : Elt) → times a (plus b c) ≡ plus (times a b) (times a c)
  times_plus = onto _ λ a. onto _ λ b. onto _ λ c.
      ap (λ x. times (mk a) x) (sym (mk_add b c)) ∙ sym (mk_mul a (b + c)) ∙ ap mk (N.mul-add a b c) ∙ mk_add (a * b) (a * c)
      ∙ ap₂ plus (mk_mul a b) (mk_mul a c)

  pub val_below : (x : Elt) → val x < modulus p
  val_below x = subst (λ n. n < modulus p) x.1 (mod-lt (val x) (modulus_pos p))

  pub plus_minus : (a : Elt) → plus a (minus a) ≡ mk 0
  unfolding minus
  plus_minus a =
      ap (λ x. plus x (mk (modulus p - val a))) (sym (mk-val a)) ∙ sym (mk_add (val a) (modulus p - val a))
      ∙ ap mk (N.add-sub_of_le (N.le_of_lt (val_below a))) ∙ mk_same _ _ (mod_self (modulus p) ∙ sym (zero-mod (modulus p)))

  abbrev pub Zmod : CRing
  Zmod = record {
    Car = Elt;
    is_set = Σ_set ℕ_set (λ n. prop→set (ℕ_set (n % modulus p) n));
    𝟘 = mk 0;
    𝟙 = mk 1;
    add = plus;
    mul = times;
    neg = minus;
    add_assoc = plus_assoc;
    add_comm = plus_comm;
    add-zero = plus_zero;
    add-neg = plus_minus;
    mul_assoc = times_assoc;
    mul_comm = times_comm;
    mul-one = times_one;
    mul-add = times_plus;
  }

  pub cast_mk : (n : ℕ) → cast Zmod n ≡ mk n
  cast_mk zero = cast_zero Zmod
  cast_mk (suc n) = cast_suc Zmod n ∙ ap (λ x. plus x (mk 1)) (cast_mk n) ∙ sym (mk_add n 1) ∙ ap mk (omega arith)

  pub mk_pow : (a n : ℕ) → mk (a ^ n) ≡ pow Zmod (mk a) n
  mk_pow a zero = ap mk (N.pow-zero a) ∙ sym (pow-zero Zmod (mk a))
  mk_pow a (suc n) = ap mk (N.pow-succ' a n) ∙ mk_mul a (a ^ n) ∙ ap (times (mk a)) (mk_pow a n) ∙ sym (pow-suc Zmod (mk a) n)

-- ── residues, where 0 < p

module _ {p : ℕ} (pos : 0 < p) where
  pub val-lt : (x : Elt p) → val p x < p
  val-lt x = subst (λ m. val p x < m) (modulus_is pos) (val_below p x)

  pub val_of : (n : ℕ) → val p (mk p n) ≡ n % p
  val_of n = val-mk p n ∙ ap (λ m. n % m) (modulus_is pos)

  pub mk_eq : (m n : ℕ) → m % p ≡ n % p → mk p m ≡ mk p n
  mk_eq m n e = val_path p (val_of m ∙ e ∙ sym (val_of n))

  pub eq_mk : (m n : ℕ) → mk p m ≡ mk p n → m % p ≡ n % p
  eq_mk m n e = sym (val_of m) ∙ ap (val p) e ∙ val_of n

  -- a remainder is in its number's class, and p is zero
  pub mk_mod : (n : ℕ) → mk p (n % p) ≡ mk p n
  mk_mod n = mk_eq (n % p) n (mod-mod n p)

  pub mk_self : mk p p ≡ mk p 0
  mk_self = mk_eq p 0 (mod_self p ∙ sym (zero-mod p))

  -- numbers below p are told apart
  pub mk_apart : (m n : ℕ) → m < p → n < p → mk p m ≡ mk p n → m ≡ n
  mk_apart m n hm hn e = sym (N.mod-eq_of_lt hm) ∙ eq_mk m n e ∙ N.mod-eq_of_lt hn

  pub mk_nonzero : (n : ℕ) → 0 < n → n < p → mk p n ≢ mk p 0
  mk_nonzero n h l e = let z : n ≡ 0 = mk_apart n 0 l pos e in absurd (omega arith)

  -- m − n, for n at most p
  pub mk_sub : (m n : ℕ) → n ≤ p → mk p (m + (p - n)) ≡ plus p (mk p m) (minus p (mk p n))
  mk_sub m n le =
      mk_add p m (p - n) ∙ ap (plus p (mk p m)) (Ring.neg_unique (Zmod p) (mk p n) (mk p (p - n))
      (sym (mk_add p n (p - n)) ∙ ap (mk p) (N.add-sub_of_le le) ∙ mk_self))
