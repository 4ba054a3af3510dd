-- Polynomials over ℤ/p by computing: lists of natural numbers, the constant term first, that the checker adds, multiplies, derives and compares
-- modulo p. Each operation has its law into `poly p`; `calc` computes a whole expression, and its law is `calc_is`. `same` decides whether two lists
-- are one polynomial, and `prime_test` whether a small number is prime.
-- Assumes nothing.
use Rattle.std.specs.Prelude.{◌≡◌, Bool, true, false, not, ◌⊎◌, T, eqb, ltb, get_or}
use Rattle.std.proofs.Math.Path.{refl, sym, ap, fun_ext}
use Rattle.std.proofs.Common.{◌∙◌, ap₂, subst, inl, inr, arith, eqb→eq, ltb→lt, T_not}
use mathlib.Core.List.{List, [], ◌∷◌}
use Prim.Native.Nat.{ℕ, zero, suc, ◌+◌, ◌*◌, ◌-◌, ◌%◌, ◌<◌, ◌≤◌, ◌∣◌}
use Rattle.std.proofs.Math.Nat as N
use Rattle.std.proofs.Math.Dec.{eqb_refl}
use Rattle.ring.specs.Ring
use Rattle.ring.specs.Ring.{pow, pow-zero, pow-suc}
use Rattle.ring.specs.Test.{both, both_left, both_right}
use Rattle.ring.specs.Identity.{Ex, eval, at}
use Rattle.ring.specs.Identity.Ex.{var, num, :0, :1, ◌:+◌, ◌:-◌, ◌:*◌, :-◌, ◌:^◌}
use Rattle.series.specs.Series as S
use Rattle.series.specs.Series.{Series, Seq, conv, sums, negs, scaled, const, zeros, head_then, tail, ∂, ∂-at}
use Rattle.series.specs.Indeterminate.{ind, cast_series}
use Rattle.series.specs.Value.{value}
use Rattle.zmod.specs.Zmod.{Zmod, mk, plus, times as mul-mod, minus, mk_add, mk_mul, mk_eq, eq_mk, mk_mod, mk_sub, cast_mk, plus_zero}
use Rattle.zmod.specs.Prime.{Prime, root_prime}
use Rattle.zmod.specs.Residues.{poly, poly_at}

-- ── sums, multiples, products: not reduced

abbrev pub add : List ℕ → List ℕ → List ℕ
add [] b = b
add (x ∷ a) [] = x ∷ a
add (x ∷ a) (y ∷ b) = (x + y) ∷ add a b

abbrev pub scale : ℕ → List ℕ → List ℕ
scale c [] = []
scale c (x ∷ a) = (c * x) ∷ scale c a

abbrev pub times : List ℕ → List ℕ → List ℕ
times [] b = []
times (x ∷ a) b = add (scale x b) (0 ∷ times a b)

-- the coefficients times k, k + 1, ..
abbrev pub weighted : ℕ → List ℕ → List ℕ
weighted k [] = []
weighted k (x ∷ a) = (k * x) ∷ weighted (suc k) a

abbrev pub derived : List ℕ → List ℕ
derived [] = []
derived (x ∷ a) = weighted 1 a

-- ── the same modulo p

abbrev pub reduce : ℕ → List ℕ → List ℕ
reduce p [] = []
reduce p (x ∷ a) = (x % p) ∷ reduce p a

abbrev pub neg : ℕ → List ℕ → List ℕ
neg p [] = []
neg p (x ∷ a) = (p - x % p) ∷ neg p a

abbrev pub sum : ℕ → List ℕ → List ℕ → List ℕ
sum p a b = reduce p (add a b)

abbrev pub difference : ℕ → List ℕ → List ℕ → List ℕ
difference p a b = reduce p (add a (neg p b))

abbrev pub multiple : ℕ → ℕ → List ℕ → List ℕ
multiple p c a = reduce p (scale c a)

abbrev pub mul : ℕ → List ℕ → List ℕ → List ℕ
mul p a b = reduce p (times a b)

abbrev pub power : ℕ → List ℕ → ℕ → List ℕ
power p a zero = 1 ∷ []
power p a (suc n) = mul p a (power p a n)

abbrev pub deriv : ℕ → List ℕ → List ℕ
deriv p a = reduce p (derived a)

-- an expression, where the variables stand for the lists ρ 0, ρ 1, ..
abbrev pub calc : ℕ → (ℕ → List ℕ) → Ex → List ℕ
calc p ρ (var i) = ρ i
calc p ρ (num n) = n ∷ []
calc p ρ :0 = []
calc p ρ :1 = 1 ∷ []
calc p ρ (a :+ b) = sum p (calc p ρ a) (calc p ρ b)
calc p ρ (a :- b) = difference p (calc p ρ a) (calc p ρ b)
calc p ρ (a :* b) = mul p (calc p ρ a) (calc p ρ b)
calc p ρ (:- a) = neg p (calc p ρ a)
calc p ρ (a :^ n) = power p (calc p ρ a) n

-- variables for some lists, and that these lists are some polynomials
abbrev pub lists : List (List ℕ) → ℕ → List ℕ
lists ls i = get_or ls i []

infixr 4 ◌and◌
pub data Stand (p : ℕ) : List (List ℕ) → List (Seq (Zmod p)) → Type 0 where
  none : Stand p [] []
  ◌and◌ : {l : List ℕ} {s : Seq (Zmod p)} {ls : List (List ℕ)} {ss : List (Seq (Zmod p))} → poly p l ≡ s → Stand p ls ss → Stand p (l ∷ ls) (s ∷ ss)

-- the first n coefficients' value at u, by Horner's rule
abbrev pub horner : ℕ → ℕ → List ℕ → ℕ → ℕ
horner p zero a u = 0
horner p (suc n) [] u = 0
horner p (suc n) (x ∷ a) u = (x + u * horner p n a u) % p

-- ── the laws

module _ (p : ℕ) where
  pub poly_nil : poly p [] ≡ zeros (Zmod p)
  unfolding poly
  poly_nil = refl

  pub poly_cons : (x : ℕ) (a : List ℕ) → poly p (x ∷ a) ≡ head_then (Zmod p) (mk p x) (poly p a)
  poly_cons x a = fun_ext go
    where
      go : (i : ℕ) → poly p (x ∷ a) i ≡ head_then (Zmod p) (mk p x) (poly p a) i
      go zero = poly_at p (x ∷ a) 0
      go (suc i) = poly_at p (x ∷ a) (suc i) ∙ sym (poly_at p a i)

  pub poly_const : (c : ℕ) → poly p (c ∷ []) ≡ const (Zmod p) (mk p c)
  poly_const c = poly_cons c [] ∙ ap (head_then (Zmod p) (mk p c)) poly_nil

  pub poly_ind : poly p (0 ∷ 1 ∷ []) ≡ ind (Zmod p)
  unfolding ind
  poly_ind = poly_cons 0 (1 ∷ []) ∙ ap (head_then (Zmod p) (mk p 0)) (poly_const 1)

  add_at : (a b : List ℕ) (i : ℕ) → get_or (add a b) i 0 ≡ get_or a i 0 + get_or b i 0
  add_at [] b i = omega arith
  add_at (x ∷ a) [] i = omega arith
  add_at (x ∷ a) (y ∷ b) zero = refl
  add_at (x ∷ a) (y ∷ b) (suc i) = add_at a b i

  scale_at : (c : ℕ) (a : List ℕ) (i : ℕ) → get_or (scale c a) i 0 ≡ c * get_or a i 0
  scale_at c [] i = sym (N.mul-zero c)
  scale_at c (x ∷ a) zero = refl
  scale_at c (x ∷ a) (suc i) = scale_at c a i

  weighted_at : (k : ℕ) (a : List ℕ) (i : ℕ) → get_or (weighted k a) i 0 ≡ (k + i) * get_or a i 0
  weighted_at k [] i = sym (N.mul-zero (k + i))
  weighted_at k (x ∷ a) zero = ap (λ m. m * x) (sym (N.add-zero k))
  weighted_at k (x ∷ a) (suc i) = weighted_at (suc k) a i ∙ ap (λ m. m * get_or a i 0) (omega arith)

  pub poly_add : (a b : List ℕ) → poly p (add a b) ≡ sums (Zmod p) (poly p a) (poly p b)
  unfolding poly
  poly_add a b = fun_ext λ i. ap (mk p) (add_at a b i) ∙ mk_add p _ _

  pub poly_scale : (c : ℕ) (a : List ℕ) → poly p (scale c a) ≡ scaled (Zmod p) (mk p c) (poly p a)
  unfolding poly
  poly_scale c a = fun_ext λ i. ap (mk p) (scale_at c a i) ∙ mk_mul p _ _

  pub poly_times : (a b : List ℕ) → poly p (times a b) ≡ conv (Zmod p) (poly p a) (poly p b)
  poly_times [] b =
      poly_nil ∙ sym (fun_ext (S.conv_zeros (Zmod p) (poly p b))) ∙ ap (λ f. conv (Zmod p) f (poly p b)) (sym poly_nil)
  poly_times (x ∷ a) b =
      poly_add (scale x b) (0 ∷ times a b)
      ∙ ap₂ (sums (Zmod p)) (poly_scale x b) (poly_cons 0 (times a b) ∙ ap (head_then (Zmod p) (mk p 0)) (poly_times a b))
      ∙ sym (ap (λ f. conv (Zmod p) f (poly p b)) (poly_cons x a) ∙ S.conv_cons (Zmod p) (mk p x) (poly p a) (poly p b))

  pub poly_derived : (a : List ℕ) → poly p (derived a) ≡ ∂ (Zmod p) (poly p a)
  unfolding poly
  poly_derived [] = fun_ext λ i. sym (∂-at (Zmod p) (poly p []) i ∙ Ring.mul-zero (Zmod p) _)
  poly_derived (x ∷ a) = fun_ext λ i.
      ap (mk p) (weighted_at 1 a i) ∙ mk_mul p _ _
      ∙ ap (λ y. mul-mod p y (mk p (get_or a i 0))) (ap (mk p) (omega arith) ∙ sym (cast_mk p (suc i)))
      ∙ sym (∂-at (Zmod p) (poly p (x ∷ a)) i)

module _ {p : ℕ} (pos : 0 < p) where
  pub poly_reduce : (a : List ℕ) → poly p (reduce p a) ≡ poly p a
  poly_reduce [] = refl
  poly_reduce (x ∷ a) =
      poly_cons p (x % p) (reduce p a) ∙ ap₂ (head_then (Zmod p)) (mk_mod pos x) (poly_reduce a) ∙ sym (poly_cons p x a)

  -- p − x % p
  pub mk_neg : (x : ℕ) → mk p (p - x % p) ≡ minus p (mk p x)
  mk_neg x =
      ap (mk p) (sym (N.zero-add (p - x % p))) ∙ mk_sub pos 0 (x % p) (N.le_of_lt (N.mod-lt x pos)) ∙ Ring.zero-add (Zmod p) _ ∙ ap (minus p) (mk_mod pos x)

  pub poly_neg : (a : List ℕ) → poly p (neg p a) ≡ negs (Zmod p) (poly p a)
  poly_neg [] = poly_nil p ∙ fun_ext (λ i. sym (Ring.neg-zero (Zmod p))) ∙ sym (ap (negs (Zmod p)) (poly_nil p))
  poly_neg (x ∷ a) =
      poly_cons p (p - x % p) (neg p a) ∙ ap₂ (head_then (Zmod p)) (mk_neg x) (poly_neg a)
      ∙ fun_ext go ∙ sym (ap (negs (Zmod p)) (poly_cons p x a))
    where
      go : (i : ℕ) → head_then (Zmod p) (minus p (mk p x)) (negs (Zmod p) (poly p a)) i ≡ negs (Zmod p) (head_then (Zmod p) (mk p x) (poly p a)) i
      go zero = refl
      go (suc i) = refl

  pub poly_sum : (a b : List ℕ) → poly p (sum p a b) ≡ sums (Zmod p) (poly p a) (poly p b)
  poly_sum a b = poly_reduce (add a b) ∙ poly_add p a b

  pub poly_difference : (a b : List ℕ) → poly p (difference p a b) ≡ sums (Zmod p) (poly p a) (negs (Zmod p) (poly p b))
  poly_difference a b = poly_reduce (add a (neg p b)) ∙ poly_add p a (neg p b) ∙ ap (sums (Zmod p) (poly p a)) (poly_neg b)

  pub poly_multiple : (c : ℕ) (a : List ℕ) → poly p (multiple p c a) ≡ scaled (Zmod p) (mk p c) (poly p a)
  poly_multiple c a = poly_reduce (scale c a) ∙ poly_scale p c a

  pub poly_mul : (a b : List ℕ) → poly p (mul p a b) ≡ conv (Zmod p) (poly p a) (poly p b)
  poly_mul a b = poly_reduce (times a b) ∙ poly_times p a b

  pub poly_deriv : (a : List ℕ) → poly p (deriv p a) ≡ ∂ (Zmod p) (poly p a)
  poly_deriv a = poly_reduce (derived a) ∙ poly_derived p a

  pub poly_power : (a : List ℕ) (n : ℕ) → poly p (power p a n) ≡ pow (Series (Zmod p)) (poly p a) n
  poly_power a zero = poly_const p 1 ∙ sym (pow-zero (Series (Zmod p)) (poly p a))
  poly_power a (suc n) =
      poly_mul a (power p a n) ∙ ap (conv (Zmod p) (poly p a)) (poly_power a n) ∙ sym (pow-suc (Series (Zmod p)) (poly p a) n)

  -- the value of an expression in lists is its value in polynomials
  pub calc_is : (ρ : ℕ → List ℕ) (e : Ex) → poly p (calc p ρ e) ≡ eval (Series (Zmod p)) (λ i. poly p (ρ i)) e
  calc_is ρ (var i) = refl
  calc_is ρ (num n) = poly_const p n ∙ ap (const (Zmod p)) (sym (cast_mk p n)) ∙ sym (cast_series (Zmod p) n)
  calc_is ρ :0 = poly_nil p
  calc_is ρ :1 = poly_const p 1
  calc_is ρ (a :+ b) = poly_sum (calc p ρ a) (calc p ρ b) ∙ ap₂ (sums (Zmod p)) (calc_is ρ a) (calc_is ρ b)
  calc_is ρ (a :- b) =
      poly_difference (calc p ρ a) (calc p ρ b) ∙ ap₂ (λ x y. sums (Zmod p) x (negs (Zmod p) y)) (calc_is ρ a) (calc_is ρ b)
  calc_is ρ (a :* b) = poly_mul (calc p ρ a) (calc p ρ b) ∙ ap₂ (conv (Zmod p)) (calc_is ρ a) (calc_is ρ b)
  calc_is ρ (:- a) = poly_neg (calc p ρ a) ∙ ap (negs (Zmod p)) (calc_is ρ a)
  calc_is ρ (a :^ n) = poly_power (calc p ρ a) n ∙ ap (λ x. pow (Series (Zmod p)) x n) (calc_is ρ a)

  -- the same, where the variables stand for the lists ls and for the polynomials ss
  pub calc_at : (ls : List (List ℕ)) (ss : List (Seq (Zmod p))) → Stand p ls ss → (e : Ex)
      → poly p (calc p (lists ls) e) ≡ eval (Series (Zmod p)) (at (Series (Zmod p)) ss) e
  calc_at ls ss all e = calc_is (lists ls) e ∙ ap (λ ρ. eval (Series (Zmod p)) ρ e) (fun_ext (go all))
    where
      go : {ls : List (List ℕ)} {ss : List (Seq (Zmod p))} → Stand p ls ss → (i : ℕ) → poly p (lists ls i) ≡ at (Series (Zmod p)) ss i
      go none i = poly_nil p
      go (h and all) zero = h
      go (h and all) (suc i) = go all i

  pub horner_is : (n : ℕ) (a : List ℕ) (u : ℕ) → mk p (horner p n a u) ≡ value (Zmod p) n (poly p a) (mk p u)
  unfolding value poly
  horner_is zero a u = refl
  horner_is (suc n) [] u =
      sym (ap (λ y. plus p (mk p 0) (mul-mod p (mk p u) y)) (sym (horner_is n [] u) ∙ ap (mk p) (none n)) ∙ ap (plus p (mk p 0))
      (Ring.mul-zero (Zmod p) (mk p u)) ∙ plus_zero p (mk p 0))
    where
      none : (n : ℕ) → horner p n [] u ≡ 0
      none zero = refl
      none (suc n) = refl
  horner_is (suc n) (x ∷ a) u =
      mk_mod pos (x + u * horner p n a u) ∙ mk_add p x (u * horner p n a u)
      ∙ ap (plus p (mk p x)) (mk_mul p u (horner p n a u) ∙ ap (mul-mod p (mk p u)) (horner_is n a u))

-- ── whether two lists are one polynomial

-- every coefficient is 0 modulo p
abbrev pub null : ℕ → List ℕ → Bool
null p [] = true
null p (x ∷ a) = both (eqb (x % p) 0) (null p a)

abbrev pub same : ℕ → List ℕ → List ℕ → Bool
same p a b = null p (add a (neg p b))

both_yes : (a b : Bool) → T a → T b → T (both a b)
both_yes true b s t = t
both_yes false b s t = s

module _ {p : ℕ} (pos : 0 < p) where
  null_yes : (a : List ℕ) → T (null p a) → poly p a ≡ zeros (Zmod p)
  null_yes [] t = poly_nil p
  null_yes (x ∷ a) t =
      poly_cons p x a
      ∙ ap₂ (head_then (Zmod p)) (mk_eq pos x 0 (eqb→eq (x % p) 0 (both_left (eqb (x % p) 0) (null p a) t) ∙ sym (N.zero-mod p)))
      (null_yes a (both_right (eqb (x % p) 0) (null p a) t))
      ∙ fun_ext (S.const_null (Zmod p))

  null_only : (a : List ℕ) → poly p a ≡ zeros (Zmod p) → T (null p a)
  null_only [] e = tt
  null_only (x ∷ a) e =
      let f : head_then (Zmod p) (mk p x) (poly p a) ≡ zeros (Zmod p) = sym (poly_cons p x a) ∙ e in
      let z : x % p ≡ 0 = eq_mk pos x 0 (ap (λ s. s 0) f) ∙ N.zero-mod p in
      both_yes (eqb (x % p) 0) (null p a) (subst (λ m. T (eqb m 0)) (sym z) (eqb_refl 0)) (null_only a (ap (tail (Zmod p)) f))

  pub same_yes : (a b : List ℕ) → T (same p a b) → poly p a ≡ poly p b
  same_yes a b t =
      Ring.sub-zero (Series (Zmod p)) (poly p a) (poly p b)
      (sym (poly_add p a (neg p b) ∙ ap (sums (Zmod p) (poly p a)) (poly_neg pos b)) ∙ null_yes (add a (neg p b)) t)

  pub same_only : (a b : List ℕ) → poly p a ≡ poly p b → T (same p a b)
  same_only a b e =
      null_only (add a (neg p b))
      (poly_add p a (neg p b) ∙ ap₂ (sums (Zmod p)) e (poly_neg pos b) ∙ (Series (Zmod p)).add-neg (poly p b))

  pub same_no : (a b : List ℕ) → T (not (same p a b)) → poly p a ≡ poly p b → ⊥
  same_no a b t e = T_not (same p a b) t (same_only a b e)

-- ── whether a number is prime: no number from 2 to its square root divides it

-- none of d, d + 1, .. whose square is at most p divides p; the last argument bounds how many are tried
abbrev undivided : ℕ → ℕ → ℕ → Bool
undivided p d zero = false
undivided p d (suc k) = elim (ltb p (d * d)) [ true ↦ true | false ↦ both (not (eqb (p % d) 0)) (undivided p (suc d) k) ]

undivided_yes : (p d k : ℕ) → T (undivided p d k) → (e : ℕ) → d ≤ e → e * e ≤ p → e ∣ p → ⊥
undivided_yes p d zero t e le small h = t
undivided_yes p d (suc k) t e le small h = go (ltb p (d * d)) refl t (λ s l. undivided_yes p (suc d) k s e l small h)
  where
    apart : (d ≡ e) ⊎ (d < e) → T (not (eqb (p % d) 0)) → (d < e → ⊥) → ⊥
    apart (inl same) s later =
        T_not (eqb (p % d) 0) s (subst (λ m. T (eqb m 0)) (sym (N.mod-eq-zero_of_dvd d (subst (λ m. m ∣ p) (sym same) h))) (eqb_refl 0))
    apart (inr more) s later = later more

    go : (b : Bool) → ltb p (d * d) ≡ b → T (elim b [ true ↦ true | false ↦ both (not (eqb (p % d) 0)) (undivided p (suc d) k) ])
        → (T (undivided p (suc d) k) → d < e → ⊥) → ⊥
    go true b s later =
        N.not-le_of_lt (ltb→lt p (d * d) (subst T (sym b) tt)) (N.le_trans (N.mul-le-mul le le) small)
    go false b s later =
        apart (N.eq-or-lt_of_le le) (both_left (not (eqb (p % d) 0)) (undivided p (suc d) k) s)
        (later (both_right (not (eqb (p % d) 0)) (undivided p (suc d) k) s))

abbrev pub prime_test : ℕ → Bool
prime_test p = both (ltb 1 p) (undivided p 2 p)

pub prime_yes : (p : ℕ) → T (prime_test p) → Prime p
prime_yes p t =
    root_prime p (ltb→lt 1 p (both_left (ltb 1 p) (undivided p 2 p) t)) (undivided_yes p 2 p (both_right (ltb 1 p) (undivided p 2 p) t))

-- examples
primes : T (prime_test 1009) × T (prime_test 11) × T (not (prime_test 1001)) × T (not (prime_test 961))
primes = (tt, tt, tt, tt)

cube : T (same 11 (power 11 (10 ∷ 1 ∷ []) 3) (10 ∷ 3 ∷ 8 ∷ 1 ∷ [])) × T (not (same 11 (power 11 (10 ∷ 1 ∷ []) 3) (10 ∷ 0 ∷ 0 ∷ 1 ∷ [])))
cube = (tt, tt)
