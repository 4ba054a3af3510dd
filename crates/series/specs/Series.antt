-- Formal power series over a commutative ring R: sequences ℕ → R with the sums of the terms and Cauchy's product, again a commutative ring,
-- `Series R`. The product is defined by recursion on the index, with no subtraction of indices; `conv_sum` is the sum over i of a i · b (n − i).
-- Euler's derivation D a = (n · a n), with Leibniz's rule.
-- Assumes nothing.
use Rattle.std.specs.Prelude.{◌≡◌}
use Rattle.std.proofs.Math.Path.{refl, sym, ap, ap₂, fun_ext}
use Rattle.std.proofs.Common.{◌∙◌, arith}
use mathlib.Core.HLevel.{→_set}
use Prim.Native.Nat.{ℕ, zero, suc, ◌+◌, ◌-◌, ◌≤◌, ◌<◌}
use Rattle.std.proofs.Math.Nat as N
use Rattle.ring.specs.Ring
use Rattle.ring.specs.Ring.{CRing, cast, cast_suc, cast_zero}
use Rattle.ring.specs.Derivation.{Derivation}
use Rattle.ring.specs.Identity.{solve2, solve4, solve5, solve6}
use Rattle.ring.specs.Identity.Ex.{:0, :1, ◌:+◌, ◌:*◌}

module _ (R : CRing) where
  open R use {Car, is_set, 𝟘, 𝟙, add as ◌⊕◌, mul as ◌⊗◌, neg, add_assoc, add_comm, add-zero, add-neg, mul_assoc, mul_comm, mul-one, mul-add}

  infixl 65 ◌⊕◌
  infixl 70 ◌⊗◌
  abbrev pub Seq : Type 0
  Seq = ℕ → Car

  abbrev pub tail : Seq → Seq
  tail a i = a (suc i)

  abbrev pub head_then : Car → Seq → Seq
  head_then c a zero = c
  head_then c a (suc i) = a i

  abbrev pub zeros : Seq
  zeros i = 𝟘

  abbrev pub sums : Seq → Seq → Seq
  sums a b i = a i ⊕ b i

  abbrev pub negs : Seq → Seq
  negs a i = neg (a i)

  abbrev pub const : Car → Seq
  const c = head_then c zeros

  abbrev pub scaled : Car → Seq → Seq
  scaled c a i = c ⊗ a i

  unfoldable pub conv : Seq → Seq → Seq
  conv a b zero = a 0 ⊗ b 0
  conv a b (suc n) = a 0 ⊗ b (suc n) ⊕ conv (tail a) b n

  pub conv_zero : (a b : Seq) → conv a b 0 ≡ a 0 ⊗ b 0
  unfolding conv
  conv_zero a b = refl

  pub conv_suc : (a b : Seq) (n : ℕ) → conv a b (suc n) ≡ a 0 ⊗ b (suc n) ⊕ conv (tail a) b n
  unfolding conv
  conv_suc a b n = refl

  pub conv_zeros : (b : Seq) (n : ℕ) → conv zeros b n ≡ 𝟘
  unfolding conv
  conv_zeros b zero = Ring.zero-mul R (b 0)
  conv_zeros b (suc n) = ap₂ ◌⊕◌ (Ring.zero-mul R (b (suc n))) (conv_zeros b n) ∙ add-zero 𝟘

  pub conv_sums : (a b c : Seq) (n : ℕ) → conv (sums a b) c n ≡ conv a c n ⊕ conv b c n
  unfolding conv
  conv_sums a b c zero = Ring.add-mul R (a 0) (b 0) (c 0)
  conv_sums a b c (suc n) =
      ap (λ x. (a 0 ⊕ b 0) ⊗ c (suc n) ⊕ x) (conv_sums (tail a) (tail b) c n)
      ∙ solve5 R (λ x y z u v. (x :+ y) :* z :+ (u :+ v)) (λ x y z u v. x :* z :+ u :+ (y :* z :+ v)) tt (a 0) (b 0) (c (suc n)) _ _

  pub conv_scaled : (k : Car) (a b : Seq) (n : ℕ) → conv (scaled k a) b n ≡ k ⊗ conv a b n
  unfolding conv
  conv_scaled k a b zero = mul_assoc k (a 0) (b 0)
  conv_scaled k a b (suc n) =
      ap (λ x. k ⊗ a 0 ⊗ b (suc n) ⊕ x) (conv_scaled k (tail a) b n)
      ∙ solve4 R (λ x y z u. x :* y :* z :+ x :* u) (λ x y z u. x :* (y :* z :+ u)) tt k (a 0) (b (suc n)) _

  -- the other way round: the last term of the sum first
  pub conv_last : (a b : Seq) (n : ℕ) → conv a b (suc n) ≡ a (suc n) ⊗ b 0 ⊕ conv a (tail b) n
  unfolding conv
  conv_last a b zero = add_comm _ _
  conv_last a b (suc n) =
      ap (λ x. a 0 ⊗ b (suc (suc n)) ⊕ x) (conv_last (tail a) b n) ∙ Ring.add_left_comm R _ _ _

  pub conv_comm : (a b : Seq) (n : ℕ) → conv a b n ≡ conv b a n
  unfolding conv
  conv_comm a b zero = mul_comm (a 0) (b 0)
  conv_comm a b (suc n) = ap₂ ◌⊕◌ (mul_comm (a 0) (b (suc n))) (conv_comm (tail a) b n) ∙ sym (conv_last b a n)

  pub conv_assoc : (a b c : Seq) (n : ℕ) → conv (conv a b) c n ≡ conv a (conv b c) n
  unfolding conv
  conv_assoc a b c zero = mul_assoc _ _ _
  conv_assoc a b c (suc n) =
      ap (λ x. a 0 ⊗ b 0 ⊗ c (suc n) ⊕ x)
      (conv_sums (scaled (a 0) (tail b)) (conv (tail a) b) c n ∙ ap₂ ◌⊕◌ (conv_scaled (a 0) (tail b) c n) (conv_assoc (tail a) b c n))
      ∙ solve5 R (λ x y z u v. x :* y :* z :+ (x :* u :+ v)) (λ x y z u v. x :* (y :* z :+ u) :+ v) tt (a 0) (b 0) (c (suc n)) _ _

  pub conv_const : (c : Car) (b : Seq) (n : ℕ) → conv (const c) b n ≡ c ⊗ b n
  unfolding conv
  conv_const c b zero = refl
  conv_const c b (suc n) = ap (λ x. c ⊗ b (suc n) ⊕ x) (conv_zeros b n) ∙ add-zero _

  pub conv_one : (b : Seq) (n : ℕ) → conv b (const 𝟙) n ≡ b n
  conv_one b n = conv_comm b (const 𝟙) n ∙ conv_const 𝟙 b n ∙ Ring.one-mul R (b n)

  pub conv_add : (a b c : Seq) (n : ℕ) → conv a (sums b c) n ≡ conv a b n ⊕ conv a c n
  conv_add a b c n = conv_comm a (sums b c) n ∙ conv_sums b c a n ∙ ap₂ ◌⊕◌ (conv_comm b a n) (conv_comm c a n)

  -- ── a series by its first term

  pub const_null : (i : ℕ) → const 𝟘 i ≡ 𝟘
  const_null zero = refl
  const_null (suc i) = refl

  pub split : (a : Seq) → a ≡ head_then (a 0) (tail a)
  split a = fun_ext go
    where
      go : (i : ℕ) → a i ≡ head_then (a 0) (tail a) i
      go zero = refl
      go (suc i) = refl

  pub conv_split : (a b : Seq) → conv a b ≡ sums (scaled (a 0) b) (head_then 𝟘 (conv (tail a) b))
  conv_split a b = fun_ext go
    where
      go : (i : ℕ) → conv a b i ≡ sums (scaled (a 0) b) (head_then 𝟘 (conv (tail a) b)) i
      go zero = conv_zero a b ∙ sym (add-zero _)
      go (suc i) = conv_suc a b i

  pub conv_cons : (c : Car) (a b : Seq) → conv (head_then c a) b ≡ sums (scaled c b) (head_then 𝟘 (conv a b))
  conv_cons c a b = conv_split (head_then c a) b

  pub conv_scalar : (c : Car) (a : Seq) → scaled c a ≡ conv (const c) a
  conv_scalar c a = fun_ext λ i. sym (conv_const c a i)

  abbrev pub Series : CRing
  Series = record {
    Car = Seq;
    is_set = →_set is_set;
    𝟘 = zeros;
    𝟙 = const 𝟙;
    add = sums;
    mul = conv;
    neg = negs;
    add_assoc = λ a b c. fun_ext λ i. add_assoc (a i) (b i) (c i);
    add_comm = λ a b. fun_ext λ i. add_comm (a i) (b i);
    add-zero = λ a. fun_ext λ i. add-zero (a i);
    add-neg = λ a. fun_ext λ i. add-neg (a i);
    mul_assoc = λ a b c. fun_ext (conv_assoc a b c);
    mul_comm = λ a b. fun_ext (conv_comm a b);
    mul-one = λ a. fun_ext (conv_one a);
    mul-add = λ a b c. fun_ext (conv_add a b c);
  }

  -- t · d/dt
  unfoldable pub D : Seq → Seq
  D a n = cast R n ⊗ a n

  pub D_at : (a : Seq) (n : ℕ) → D a n ≡ cast R n ⊗ a n
  unfolding D
  D_at a n = refl

  D_tail : (a : Seq) → tail (D a) ≡ sums (D (tail a)) (tail a)
  unfolding D
  D_tail a = fun_ext λ i.
      ap (λ x. x ⊗ a (suc i)) (cast_suc R i) ∙ Ring.add-mul R (cast R i) 𝟙 (a (suc i)) ∙ ap (λ x. cast R i ⊗ a (suc i) ⊕ x) (Ring.one-mul R (a (suc i)))

  pub D_zero : (a : Seq) → D a 0 ≡ 𝟘
  unfolding D
  D_zero a = ap (λ x. x ⊗ a 0) (cast_zero R) ∙ Ring.zero-mul R (a 0)

  pub leibniz_at : (a b : Seq) (n : ℕ) → D (conv a b) n ≡ conv (D a) b n ⊕ conv a (D b) n
  unfolding conv
  leibniz_at a b zero =
      D_zero (conv a b)
      ∙ sym (ap₂ (λ x y. x ⊗ b 0 ⊕ a 0 ⊗ y) (D_zero a) (D_zero b) ∙ ap₂ ◌⊕◌ (Ring.zero-mul R (b 0)) (Ring.mul-zero R (a 0)) ∙ add-zero 𝟘)
  leibniz_at a b (suc n) =
      D_at (conv a b) (suc n)
      ∙ ap (λ x. x ⊗ (a 0 ⊗ b (suc n) ⊕ conv (tail a) b n)) (cast_suc R n)
      ∙ solve4 R (λ c p q x. (c :+ :1) :* (p :* q :+ x)) (λ c p q x. c :* x :+ ((c :+ :1) :* (p :* q) :+ x)) tt (cast R n) (a 0) (b (suc n)) _
      ∙ ap (λ x. x ⊕ ((cast R n ⊕ 𝟙) ⊗ (a 0 ⊗ b (suc n)) ⊕ conv (tail a) b n)) (sym (D_at (conv (tail a) b) n) ∙ leibniz_at (tail a) b n)
      ∙ solve6 R (λ y z k p q x. y :+ z :+ (k :* (p :* q) :+ x)) (λ y z k p q x. :0 :* q :+ (y :+ x) :+ (p :* (k :* q) :+ z)) tt _ _ _ _ _ _
      ∙ sym (ap₂ ◌⊕◌
      (ap₂ (λ x y. x ⊗ b (suc n) ⊕ y) (D_zero a) (ap (λ s. conv s b n) (D_tail a) ∙ conv_sums (D (tail a)) (tail a) b n))
      (ap (λ x. a 0 ⊗ x ⊕ conv (tail a) (D b) n) (D_at b (suc n) ∙ ap (λ x. x ⊗ b (suc n)) (cast_suc R n))))

  pub leibniz : (a b : Seq) → D (conv a b) ≡ sums (conv (D a) b) (conv a (D b))
  leibniz a b = fun_ext (leibniz_at a b)

  pub D_add : (a b : Seq) → D (sums a b) ≡ sums (D a) (D b)
  unfolding D
  D_add a b = fun_ext λ n. mul-add _ _ _

  abbrev pub Euler : Derivation Series
  Euler = record { d = D; d_add = D_add; d_mul = leibniz }

  -- d/dt
  unfoldable pub ∂ : Seq → Seq
  ∂ a n = cast R (suc n) ⊗ a (suc n)

  pub ∂-at : (a : Seq) (n : ℕ) → ∂ a n ≡ cast R (suc n) ⊗ a (suc n)
  unfolding ∂
  ∂-at a n = refl

  pub ∂-is : (a : Seq) → tail (D a) ≡ ∂ a
  unfolding D ∂
  ∂-is a = refl

  pub ∂-leibniz : (a b : Seq) → ∂ (conv a b) ≡ sums (conv (∂ a) b) (conv a (∂ b))
  unfolding D ∂
  ∂-leibniz a b = fun_ext λ n.
      leibniz_at a b (suc n)
      ∙ ap₂ ◌⊕◌
      (conv_suc (D a) b n ∙ ap (λ x. x ⊗ b (suc n) ⊕ conv (∂ a) b n) (D_zero a) ∙ solve2 R (λ x y. :0 :* x :+ y) (λ x y. y) tt (b (suc n)) _)
      (conv_last a (D b) n ∙ ap (λ x. a (suc n) ⊗ x ⊕ conv a (∂ b) n) (D_zero b) ∙ solve2 R (λ x y. x :* :0 :+ y) (λ x y. y) tt (a (suc n)) _)

  pub ∂-add : (a b : Seq) → ∂ (sums a b) ≡ sums (∂ a) (∂ b)
  unfolding ∂
  ∂-add a b = fun_ext λ n. mul-add _ _ _

  -- (ab)''
  pub ∂-leibniz_twice : (a b : Seq)
      → ∂ (∂ (conv a b)) ≡ sums (sums (conv (∂ (∂ a)) b) (conv (∂ a) (∂ b))) (sums (conv (∂ a) (∂ b)) (conv a (∂ (∂ b))))
  ∂-leibniz_twice a b = ap ∂ (∂-leibniz a b) ∙ ∂-add _ _ ∙ ap₂ sums (∂-leibniz (∂ a) b) (∂-leibniz a (∂ b))

  abbrev pub Formal : Derivation Series
  Formal = record { d = ∂; d_add = ∂-add; d_mul = ∂-leibniz }

  -- the sum of the terms before n
  unfoldable pub sum : Seq → ℕ → Car
  sum a zero = 𝟘
  sum a (suc n) = sum a n ⊕ a n

  pub sum_suc : (a : Seq) (n : ℕ) → sum a (suc n) ≡ sum a n ⊕ a n
  unfolding sum
  sum_suc a n = refl

  pub sum_first : (a : Seq) (n : ℕ) → sum a (suc n) ≡ a 0 ⊕ sum (tail a) n
  unfolding sum
  sum_first a zero = add_comm _ _
  sum_first a (suc n) = ap (λ x. x ⊕ a (suc n)) (sum_first a n) ∙ add_assoc _ _ _

  -- Cauchy's product, as it is written on paper and as code computes it
  pub conv_sum : (a b : Seq) (n : ℕ) → conv a b n ≡ sum (λ i. a i ⊗ b (n - i)) (suc n)
  unfolding conv sum
  conv_sum a b zero = sym (Ring.zero-add R (a 0 ⊗ b 0))
  conv_sum a b (suc n) =
      ap₂ (λ x y. a 0 ⊗ x ⊕ y) (ap b (sym (N.sub-zero (suc n))))
      (conv_sum (tail a) b n ∙ ap (λ f. sum f (suc n)) (fun_ext λ i. ap (λ m. a (suc i) ⊗ b m) (sym (N.suc-sub-suc n i))))
      ∙ sym (sum_first (λ i. a i ⊗ b (suc n - i)) (suc n))

  -- a sum depends on its terms, and a factor goes outside
  pub sum_same : (a b : Seq) (n : ℕ) → ((i : ℕ) → i < n → a i ≡ b i) → sum a n ≡ sum b n
  unfolding sum
  sum_same a b zero h = refl
  sum_same a b (suc n) h = ap₂ ◌⊕◌ (sum_same a b n (λ i l. h i (omega arith))) (h n (omega arith))

  -- terms that are 0 add nothing
  pub sum_rest : (a : Seq) (n k : ℕ) → ((i : ℕ) → n ≤ i → i < n + k → a i ≡ 𝟘) → sum a (n + k) ≡ sum a n
  sum_rest a n zero h = ap (sum a) (omega arith)
  sum_rest a n (suc k) h =
      ap (sum a) (omega arith) ∙ sum_suc a (n + k) ∙ ap₂ ◌⊕◌ (sum_rest a n k (λ i l g. h i l (omega arith))) (h (n + k) (omega arith) (omega arith))
      ∙ add-zero _

  pub sum_scaled : (c : Car) (a : Seq) (n : ℕ) → sum (scaled c a) n ≡ c ⊗ sum a n
  unfolding sum
  sum_scaled c a zero = sym (Ring.mul-zero R c)
  sum_scaled c a (suc n) = ap (λ x. x ⊕ c ⊗ a n) (sum_scaled c a n) ∙ sym (mul-add c _ _)
