-- The rules R1 to R3, curves and points by computing: polynomials are lists of numbers, and each test that the checker computes says whether the rule
-- holds of the polynomials over ℤ/p.
-- Assumes nothing.
use Rattle.std.specs.Prelude.{◌≡◌, refl, Bool, not, ◌≢◌, ℕ, zero, suc, ◌+◌, ◌*◌, ◌-◌, ◌/◌, ◌%◌, ◌^◌, ◌<◌, ◌≤◌, T, eqb, leb, length, get_or}
use Rattle.std.proofs.Math.Path.{sym, ap, fun_ext}
use Rattle.std.proofs.Common.{◌∙◌, ap₂, subst, arith, eqb→eq, leb→le, T_not}
use mathlib.Core.List.{List, [], ◌∷◌}
use Rattle.std.proofs.Math.Nat as N
use Rattle.std.proofs.Math.Dec.{eqb_refl}
use Rattle.ring.specs.Ring
use Rattle.ring.specs.Ring.{CRing, cast, pow}
use Rattle.ring.specs.Test.{both, both_left, both_right}
use Rattle.ring.specs.Identity.{Ex, eval, at, solve3}
use Rattle.ring.specs.Identity.Ex.{var, num, :0, ◌:+◌, ◌:-◌, ◌:*◌, :-◌, ◌:^◌}
use Rattle.ring.specs.Field.{unit_cancel}
use Rattle.series.specs.Series.{Series, Seq, const, ∂, head_then}
use Rattle.series.specs.Indeterminate.{ind}
use Rattle.series.specs.Value.{value}
use Rattle.zmod.specs.Zmod.{Zmod, mk, plus, times, minus, mk_eq, eq_mk, mk_mul, mk_add, cast_mk}
use Rattle.zmod.specs.Prime.{Prime, prime_pos, cast_inverse}
use Rattle.zmod.specs.Natural.{agree, at as numbers}
use Rattle.zmod.specs.Residues.{poly, poly_at, poly_past}
use Rattle.zmod.specs.Calculation.{calc, calc_at, lists, deriv, same, same_yes, same_no, horner, horner_is, mk_neg, poly_const, poly_ind, poly_deriv, poly_cons}
use Rattle.zmod.specs.Calculation.Stand.{none, ◌and◌}
use Rattle.isogeny.specs.Curve.{discriminant, Nonsingular, OnCurve}
use Rattle.isogeny.specs.Rules.{
  N,
  linear_part_of,
  first_logarithmic_part_of,
  second_logarithmic_part_of,
  f,
  W,
  left,
  right,
  R1,
  R3,
  Meets,
  g_at,
  W_at,
  Image,
}
use Rattle.sheet.specs.declared.Values.{Values}
use Rattle.sheet.specs.Values.{question, half}

-- ── the rules as expressions

abbrev :x : Ex
:x = var 0

abbrev :A : Ex
:A = var 1

abbrev :B : Ex
:B = var 2

abbrev :Ã : Ex
:Ã = var 3

abbrev :B̃ : Ex
:B̃ = var 4

abbrev :σ : Ex
:σ = var 5

abbrev :g : Ex
:g = var 6

abbrev :g' : Ex
:g' = var 7

abbrev :g'' : Ex
:g'' = var 8

abbrev :n : Ex
:n = var 9

abbrev :n' : Ex
:n' = var 10

abbrev :f : Ex
:f = :x :^ 3 :+ :A :* :x :+ :B

abbrev :N : ℕ → Ex
:N d = (num (2 * d + 1) :* :x :- :σ) :* :g :^ 2 :- num 2 :* (num 3 :* :x :^ 2 :+ :A) :* :g :* :g' :- num 4 :* :f :* (:g :* :g'' :- :g' :^ 2)

-- its terms, in this order
abbrev :linear : ℕ → Ex
:linear d = (num (2 * d + 1) :* :x :- :σ) :* :g :^ 2

abbrev :first : Ex
:first = :- (num 2 :* (num 3 :* :x :^ 2 :+ :A) :* :g :* :g')

abbrev :second : Ex
:second = :- (num 4 :* :f :* (:g :* :g'' :- :g' :^ 2))

abbrev :W : Ex
:W = :n' :* :g :- num 2 :* :n :* :g'

abbrev :left : Ex
:left = :f :* :W :^ 2

abbrev :right : Ex
:right = :n :^ 3 :+ :Ã :* :n :* :g :^ 4 :+ :B̃ :* :g :^ 6

module _ (v : Values) (g n : List ℕ) where
  -- what the variables stand for, as lists and as polynomials
  abbrev given : List (List ℕ)
  given =
      (0 ∷ 1 ∷ []) ∷ (v.a ∷ []) ∷ (v.b ∷ []) ∷ (v.atilde ∷ []) ∷ (v.btilde ∷ []) ∷ (v.sigma ∷ [])
      ∷ g ∷ deriv v.p g ∷ deriv v.p (deriv v.p g) ∷ n ∷ deriv v.p n ∷ []

  abbrev meant : List (Seq (Zmod v.p))
  meant =
      let R : CRing = Zmod v.p in
      let κ : ℕ → Seq R = λ c. const R (mk v.p c) in
      let γ : Seq R = poly v.p g in
      let ν : Seq R = poly v.p n in
      ind R ∷ κ v.a ∷ κ v.b ∷ κ v.atilde ∷ κ v.btilde ∷ κ v.sigma ∷ γ ∷ ∂ R γ ∷ ∂ R (∂ R γ) ∷ ν ∷ ∂ R ν ∷ []

  abbrev by_computing : Ex → List ℕ
  by_computing e = calc v.p (lists given) e

  computed : 0 < v.p → (e : Ex) → poly v.p (by_computing e) ≡ eval (Series (Zmod v.p)) (at (Series (Zmod v.p)) meant) e
  computed pos =
      let q : ℕ = v.p in
      calc_at pos given meant
      (poly_ind q and poly_const q v.a and poly_const q v.b and poly_const q v.atilde and poly_const q v.btilde
      and poly_const q v.sigma and refl and poly_deriv pos g and (poly_deriv pos (deriv q g) ∙ ap (∂ (Zmod q)) (poly_deriv pos g))
      and refl and poly_deriv pos n and none)

-- ── R2: the N of g

abbrev pub numerator : Values → List ℕ → List ℕ
numerator v g = by_computing v g [] (:N (half v))

pub numerator_is : (v : Values) (g : List ℕ) → 0 < v.p → poly v.p (numerator v g) ≡ N (Zmod v.p) (question v) (poly v.p g)
unfolding N f
numerator_is v g pos = computed v g [] pos (:N (half v))

abbrev pub R2_test : Values → List ℕ → List ℕ → Bool
R2_test v g n = same v.p n (numerator v g)

module _ (v : Values) (g n : List ℕ) (pos : 0 < v.p) where
  pub R2_by_computing : T (R2_test v g n) → poly v.p n ≡ N (Zmod v.p) (question v) (poly v.p g)
  R2_by_computing t = same_yes pos n (numerator v g) t ∙ numerator_is v g pos

  pub R2_refuted : T (not (R2_test v g n)) → poly v.p n ≡ N (Zmod v.p) (question v) (poly v.p g) → ⊥
  R2_refuted t e = same_no pos n (numerator v g) t (e ∙ sym (numerator_is v g pos))

-- ── the parts of R2: whether lists hold them

abbrev pub parts_tests : Values → List ℕ → List ℕ → List ℕ → List ℕ → List Bool
parts_tests v g l m n =
    same v.p l (by_computing v g [] (:linear (half v))) ∷ same v.p m (by_computing v g [] :first) ∷ same v.p n (by_computing v g [] :second) ∷ []

module _ (v : Values) (g : List ℕ) (pos : 0 < v.p) where
  pub linear_by_computing : (l : List ℕ) → T (same v.p l (by_computing v g [] (:linear (half v))))
      → poly v.p l ≡ linear_part_of (Zmod v.p) (question v) (poly v.p g)
  unfolding linear_part_of
  linear_by_computing l t = same_yes pos l (by_computing v g [] (:linear (half v))) t ∙ computed v g [] pos (:linear (half v))

  pub first_by_computing : (m : List ℕ) → T (same v.p m (by_computing v g [] :first))
      → poly v.p m ≡ first_logarithmic_part_of (Zmod v.p) (question v) (poly v.p g)
  unfolding first_logarithmic_part_of
  first_by_computing m t = same_yes pos m (by_computing v g [] :first) t ∙ computed v g [] pos :first

  pub second_by_computing : (n : List ℕ) → T (same v.p n (by_computing v g [] :second))
      → poly v.p n ≡ second_logarithmic_part_of (Zmod v.p) (question v) (poly v.p g)
  unfolding second_logarithmic_part_of f
  second_by_computing n t = same_yes pos n (by_computing v g [] :second) t ∙ computed v g [] pos :second

-- ── R3

abbrev pub R3_test : Values → List ℕ → List ℕ → Bool
R3_test v g n = same v.p (by_computing v g n :left) (by_computing v g n :right)

module _ (v : Values) (g n : List ℕ) (pos : 0 < v.p) where
  left_is : poly v.p (by_computing v g n :left) ≡ left (Zmod v.p) (question v) (poly v.p g) (poly v.p n)
  unfolding left f W
  left_is = computed v g n pos :left

  right_is : poly v.p (by_computing v g n :right) ≡ right (Zmod v.p) (question v) (poly v.p g) (poly v.p n)
  unfolding right
  right_is = computed v g n pos :right

  pub R3_by_computing : T (R3_test v g n) → R3 (Zmod v.p) (question v) (poly v.p g) (poly v.p n)
  R3_by_computing t i = ap (λ s. s i) (sym left_is ∙ same_yes pos (by_computing v g n :left) (by_computing v g n :right) t ∙ right_is)

  pub R3_refuted : T (not (R3_test v g n)) → R3 (Zmod v.p) (question v) (poly v.p g) (poly v.p n) → ⊥
  R3_refuted t h = same_no pos (by_computing v g n :left) (by_computing v g n :right) t (left_is ∙ fun_ext h ∙ sym right_is)

-- ── R1

abbrev pub R1_test : Values → List ℕ → Bool
R1_test v g =
    both (leb (length g) (suc (half v)))
    (both (eqb (get_or g (half v) 0 % v.p) (1 % v.p)) (eqb (v.sigma % v.p) ((v.p - (2 * get_or g (half v - 1) 0) % v.p) % v.p)))

-- −2 c
pub twice : {p : ℕ} → 0 < p → (c : ℕ) → mk p (p - (2 * c) % p) ≡ minus p (times p (cast (Zmod p) 2) (mk p c))
twice {p} pos c = mk_neg pos (2 * c) ∙ ap (minus p) (mk_mul p 2 c ∙ ap (λ y. times p y (mk p c)) (sym (cast_mk p 2)))

pub R1_by_computing : (v : Values) (g : List ℕ) → 0 < v.p → T (R1_test v g) → R1 (Zmod v.p) (question v) (poly v.p g)
R1_by_computing v g pos t =
    let q : ℕ = v.p in
    let one : Bool = eqb (get_or g (half v) 0 % q) (1 % q) in
    let two : Bool = eqb (v.sigma % q) ((q - (2 * get_or g (half v - 1) 0) % q) % q) in
    let rest : T (both one two) = both_right (leb (length g) (suc (half v))) (both one two) t in
    let short : length g ≤ suc (half v) = leb→le (length g) (suc (half v)) (both_left (leb (length g) (suc (half v))) (both one two) t) in
    record {
      degree = λ i l. poly_past q g i (N.le_trans short l);
      leading = poly_at q g (half v) ∙ mk_eq pos (get_or g (half v) 0) 1 (eqb→eq _ _ (both_left one two rest));
      sigma =
          mk_eq pos v.sigma (q - (2 * get_or g (half v - 1) 0) % q) (eqb→eq _ _ (both_right one two rest))
          ∙ twice pos (get_or g (half v - 1) 0) ∙ ap (λ y. minus q (times q (cast (Zmod q) 2) y)) (sym (poly_at q g (half v - 1)));
    }

-- ── all three: R1, that N is R2's, and R3

abbrev pub meets_test : Values → List ℕ → List ℕ → Bool
meets_test v g n = both (R1_test v g) (both (R2_test v g n) (R3_test v g n))

pub meets_by_computing : (v : Values) (g n : List ℕ) → 0 < v.p → T (meets_test v g n) → Meets (Zmod v.p) (question v) (poly v.p g)
meets_by_computing v g n pos t =
    let rest : T (both (R2_test v g n) (R3_test v g n)) = both_right (R1_test v g) (both (R2_test v g n) (R3_test v g n)) t in
    record {
      r1 = R1_by_computing v g pos (both_left (R1_test v g) (both (R2_test v g n) (R3_test v g n)) t);
      r3 = subst (R3 (Zmod v.p) (question v) (poly v.p g)) (R2_by_computing v g n pos (both_left (R2_test v g n) (R3_test v g n) rest))
          (R3_by_computing v g n pos (both_right (R2_test v g n) (R3_test v g n) rest));
    }

-- ── no g at all, in degree 3: R1 determines g = x + c, by σ = −2c

-- −σ/2
abbrev pub half_sum : Values → ℕ
half_sum v = ((v.p - v.sigma % v.p) * ((v.p + 1) / 2)) % v.p

abbrev only : Values → List ℕ
only v = half_sum v ∷ 1 ∷ []

abbrev pub none_test : Values → Bool
none_test v =
    both (eqb (half v) 1)
    (both (eqb ((2 * half_sum v + v.sigma) % v.p) 0) (not (R3_test v (only v) (numerator v (only v)))))

module _ (v : Values) (P : Prime v.p) (odd : 2 < v.p) (three : half v ≡ 1) (c : ℕ) (root : (2 * c + v.sigma) % v.p ≡ 0) where
  abbrev R : CRing
  R = Zmod v.p

  constant : (g : Seq R) → R1 R (question v) g → g 0 ≡ mk v.p c
  constant g r =
      Ring.sub-zero R (g 0) (mk v.p c)
      (unit_cancel R (cast R 2) _ (cast_inverse P 2 (omega arith) odd)
      (solve3 R (λ a b s. num 2 :* (a :- b)) (λ a b s. :- (:- (num 2 :* a)) :- (num 2 :* b :+ s) :+ s) tt (g 0) (mk v.p c) (mk v.p v.sigma)
      ∙ ap₂ (λ y z. plus v.p (plus v.p (minus v.p y) (minus v.p z)) (mk v.p v.sigma)) (sym sigma) zero_sum
      ∙ solve3 R (λ a b s. :- s :- :0 :+ s) (λ a b s. :0) tt (g 0) (mk v.p c) (mk v.p v.sigma)))
    where
      sigma : mk v.p v.sigma ≡ minus v.p (times v.p (cast (Zmod v.p) 2) (g 0))
      sigma = r.sigma ∙ ap (λ d. minus v.p (times v.p (cast (Zmod v.p) 2) (g (d - 1)))) three

      zero_sum : plus v.p (times v.p (cast (Zmod v.p) 2) (mk v.p c)) (mk v.p v.sigma) ≡ mk v.p 0
      zero_sum =
          ap (λ y. plus v.p (times v.p y (mk v.p c)) (mk v.p v.sigma)) (cast_mk v.p 2)
          ∙ sym (mk_add v.p (2 * c) v.sigma ∙ ap (λ y. plus v.p y (mk v.p v.sigma)) (mk_mul v.p 2 c))
          ∙ mk_eq (prime_pos P) (2 * c + v.sigma) 0 (root ∙ sym (N.zero-mod v.p))

  determined : (g : Seq R) → R1 R (question v) g → g ≡ poly v.p (c ∷ 1 ∷ [])
  determined g r = fun_ext go ∙ sym (poly_cons v.p c (1 ∷ []) ∙ ap (head_then R (mk v.p c)) (poly_const v.p 1))
    where
      go : (i : ℕ) → g i ≡ head_then R (mk v.p c) (const R (mk v.p 1)) i
      go zero = constant g r
      go (suc zero) = ap g (sym three) ∙ r.leading
      go (suc (suc i)) = r.degree (suc (suc i)) (omega arith)

pub none_by_computing : (v : Values) → Prime v.p → 2 < v.p → T (none_test v) → (g : Seq (Zmod v.p)) → Meets (Zmod v.p) (question v) g → ⊥
none_by_computing v P odd t g m =
    let q : ℕ = v.p in
    let pos : 0 < q = prime_pos P in
    let no : Bool = not (R3_test v (only v) (numerator v (only v))) in
    let root : Bool = eqb ((2 * half_sum v + v.sigma) % q) 0 in
    let rest : T (both root no) = both_right (eqb (half v) 1) (both root no) t in
    let e : g ≡ poly q (only v) =
    determined v P odd (eqb→eq _ _ (both_left (eqb (half v) 1) (both root no) t)) (half_sum v) (eqb→eq _ _ (both_left root no rest)) g m.r1
    in
    R3_refuted v (only v) (numerator v (only v)) pos (both_right root no rest)
    (subst (R3 (Zmod q) (question v) (poly q (only v))) (sym (numerator_is v (only v) pos))
    (subst (λ h. R3 (Zmod q) (question v) h (N (Zmod q) (question v) h)) e m.r3))

-- ── curves and points

abbrev pub singular_test : ℕ → ℕ → ℕ → Bool
singular_test p a b = eqb ((4 * a ^ 3 + 27 * b ^ 2) % p) 0

abbrev pub nonsingular_test : ℕ → ℕ → ℕ → Bool
nonsingular_test p a b = not (singular_test p a b)

abbrev pub on_curve_test : ℕ → ℕ → ℕ → ℕ → ℕ → Bool
on_curve_test p a b u w = eqb (w ^ 2 % p) ((u ^ 3 + a * u + b) % p)

-- n is 0 modulo p, or not
nonzero : {p : ℕ} → 0 < p → (n : ℕ) → T (not (eqb (n % p) 0)) → mk p n ≢ mk p 0
nonzero {p} pos n t e = T_not (eqb (n % p) 0) t (subst (λ m. T (eqb m 0)) (sym (eq_mk pos n 0 e ∙ N.zero-mod p)) (eqb_refl 0))

equal : {p : ℕ} → 0 < p → (m n : ℕ) → T (eqb (m % p) (n % p)) → mk p m ≡ mk p n
equal {p} pos m n t = mk_eq pos m n (eqb→eq (m % p) (n % p) t)

module _ {p : ℕ} (pos : 0 < p) (a b : ℕ) where
  pub nonsingular_by_computing : T (nonsingular_test p a b) → Nonsingular (Zmod p) (mk p a) (mk p b)
  unfolding discriminant
  nonsingular_by_computing t e =
      nonzero pos (4 * a ^ 3 + 27 * b ^ 2) t (agree p (numbers (a ∷ b ∷ [])) (num 4 :* var 0 :^ 3 :+ num 27 :* var 1 :^ 2) tt ∙ e)

  pub singular_by_computing : T (singular_test p a b) → Nonsingular (Zmod p) (mk p a) (mk p b) → ⊥
  unfolding discriminant
  singular_by_computing t curve =
      curve (sym (agree p (numbers (a ∷ b ∷ [])) (num 4 :* var 0 :^ 3 :+ num 27 :* var 1 :^ 2) tt)
      ∙ mk_eq pos (4 * a ^ 3 + 27 * b ^ 2) 0 (eqb→eq _ 0 t ∙ sym (N.zero-mod p)))

  pub on_curve_by_computing : (u w : ℕ) → T (on_curve_test p a b u w) → OnCurve (Zmod p) (mk p a) (mk p b) (mk p u) (mk p w)
  unfolding OnCurve
  on_curve_by_computing u w t =
      sym (agree p (numbers (w ∷ [])) (var 0 :^ 2) tt) ∙ equal pos (w ^ 2) (u ^ 3 + a * u + b) t
      ∙ agree p (numbers (a ∷ b ∷ u ∷ [])) (var 2 :^ 3 :+ var 0 :* var 2 :+ var 1) tt

-- the values at u of g, N and N'g − 2Ng'
abbrev g_value : Values → List ℕ → ℕ → ℕ
g_value v g u = horner v.p (suc (half v)) g u

abbrev n_value : Values → List ℕ → ℕ → ℕ
n_value v n u = horner v.p (suc (2 * half v + 1)) n u

abbrev W_value : Values → List ℕ → List ℕ → ℕ → ℕ
W_value v g n u = horner v.p (suc (3 * half v)) (by_computing v g n :W) u

-- the image of (u, w) where g(u) is not 0, both quotients cross-multiplied
abbrev pub image_test : Values → List ℕ → List ℕ → ℕ → ℕ → ℕ → ℕ → Bool
image_test v g n u w u' w' =
    both (not (eqb (g_value v g u % v.p) 0))
    (both (eqb ((u' * g_value v g u ^ 2) % v.p) (n_value v n u % v.p)) (eqb ((w' * g_value v g u ^ 3) % v.p) ((w * W_value v g n u) % v.p)))

abbrev pub vanishes_test : Values → List ℕ → ℕ → Bool
vanishes_test v g u = eqb (g_value v g u % v.p) (0 % v.p)

module _ (v : Values) (g n : List ℕ) (pos : 0 < v.p) (u : ℕ) where
  g_value_is : mk v.p (g_value v g u) ≡ g_at (Zmod v.p) (question v) (poly v.p g) (mk v.p u)
  g_value_is = horner_is pos (suc (half v)) g u

  W_value_is : mk v.p (W_value v g n u) ≡ W_at (Zmod v.p) (question v) (poly v.p g) (poly v.p n) (mk v.p u)
  unfolding W
  W_value_is =
      horner_is pos (suc (3 * half v)) (by_computing v g n :W) u
      ∙ ap (λ s. value (Zmod v.p) (suc (3 * half v)) s (mk v.p u)) (computed v g n pos :W)

  pub image_by_computing : (w u' w' : ℕ) → T (image_test v g n u w u' w')
      → Image (Zmod v.p) (question v) (poly v.p g) (poly v.p n) (mk v.p u) (mk v.p w) (mk v.p u') (mk v.p w')
  image_by_computing w u' w' t =
      let q : ℕ = v.p in
      let γ : ℕ = g_value v g u in
      let one : Bool = not (eqb (γ % q) 0) in
      let two : Bool = eqb ((u' * γ ^ 2) % q) (n_value v n u % q) in
      let three : Bool = eqb ((w' * γ ^ 3) % q) ((w * W_value v g n u) % q) in
      let rest : T (both two three) = both_right one (both two three) t in
      record {
        defined = λ e. nonzero pos γ (both_left one (both two three) t) (g_value_is ∙ e);
        abscissa =
            ap (λ y. times q (mk q u') (pow (Zmod q) y 2)) (sym g_value_is)
            ∙ sym (agree q (numbers (u' ∷ γ ∷ [])) (var 0 :* var 1 :^ 2) tt)
            ∙ equal pos (u' * γ ^ 2) (n_value v n u) (both_left two three rest) ∙ horner_is pos (suc (2 * half v + 1)) n u;
        ordinate =
            ap (λ y. times q (mk q w') (pow (Zmod q) y 3)) (sym g_value_is)
            ∙ sym (agree q (numbers (w' ∷ γ ∷ [])) (var 0 :* var 1 :^ 3) tt)
            ∙ equal pos (w' * γ ^ 3) (w * W_value v g n u) (both_right two three rest)
            ∙ mk_mul q w (W_value v g n u) ∙ ap (times q (mk q w)) W_value_is;
      }

  pub vanishes_by_computing : T (vanishes_test v g u) → g_at (Zmod v.p) (question v) (poly v.p g) (mk v.p u) ≡ mk v.p 0
  vanishes_by_computing t = sym g_value_is ∙ equal pos (g_value v g u) 0 t
