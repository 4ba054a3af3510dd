-- What the two cancelling functions leave is a remainder up to a unit: b₁ a − a₁ b with a coefficient less, and b₁² a − (a₁ b₁ x + a₀ b₁ − a₁ b₀) xˢ b with two
-- less, where a₁, a₀, b₁ and b₀ are the last words of a and b and those before.
-- Assumes nothing.
use Rattle.std.specs.Prelude.{◌≡◌, refl, List, ◌∷◌, ◌++◌, ℕ, zero, suc, ◌+◌, ◌-◌, ◌≤◌, ◌<◌, length, get_or, set, take, drop}
use Rattle.std.proofs.Common.{sym, ◌∙◌, ap, ap₂, subst, arith, length-take, length-drop, length-append, get_or-set_same, get_or-set_other}
use Rattle.std.proofs.Math.Path.{fun_ext}
use Rattle.std.proofs.Math.Decide.{dec_lt}
use Rattle.std.proofs.Math.ListN.{get_or-eq_default}
use Rattle.ring.specs.Field.{Inverse, unit_product}
use Rattle.ring.specs.Identity.{solve3}
use Rattle.ring.specs.Identity.Ex.{:0, ◌:+◌, ◌:*◌}
use Rattle.series.specs.Series.{Seq, conv, sums, scaled, head_then, const, conv_scalar}
use Rattle.series.specs.Degree.{Below, poly_const}
use Rattle.series.specs.Reversal.{shift}
use Rattle.zmod.specs.Zmod.{Zmod, mk, plus, minus, times}
use Rattle.zmod.specs.Prime.{Prime, prime_pos}
use Rattle.zmod.specs.Residues.{Residue, Reduced, poly, poly_at, poly_below, Residues, residues_poly, residues_same}
use Rattle.divisibility.specs.Congruence.{Congruent}
use Rattle.euclid.specs.Words.{Leads, leads_leading, poly_front, front_inside, front_past}
use Rattle.euclid.specs.Combination.{linear, plus_multiple_congruent, shifted_congruent, cancelled_one, cancelled_two}
use Rattle.euclid.specs.Pseudo.{PseudoRemainder}

module _ (p : ℕ) (a b : List ℕ) (P : Prime p) (divisor : Leads p b) where
  abbrev A : Seq (Zmod p)
  A = poly p a

  abbrev B : Seq (Zmod p)
  B = poly p b

  -- where b's last word stands
  abbrev d : ℕ
  d = length b - 1

  some : 0 < length b
  some = divisor.some

  below_b : Below (Zmod p) (suc d) B
  below_b = poly_below p b (suc d) (omega (arith, some))

  -- ── as many words: c = b₁ and y = −a₁

  module _ (c y : ℕ) (out : List ℕ) (same : length a ≡ length b) (kept : length out ≡ length a) (c_is : c ≡ get_or b d 0)
      (y_is : mk p y ≡ minus p (mk p (get_or a d 0)))
      (h : Residues p (sums (Zmod p) (sums (Zmod p) (scaled (Zmod p) (mk p c) A) (scaled (Zmod p) (mk p y) B)) (scaled (Zmod p) (mk p 0) B)) out) where
    abbrev lower : Seq (Zmod p)
    lower = sums (Zmod p) (scaled (Zmod p) (B d) A) (scaled (Zmod p) (minus p (A d)) B)

    lower_below : Below (Zmod p) d lower
    lower_below = cancelled_one (Zmod p) d A B (poly_below p a (suc d) (omega (arith, some))) below_b

    lower_is : poly p out ≡ lower
    lower_is =
        residues_poly (residues_same (fun_ext λ i.
        solve3 (Zmod p) (λ x v w. x :+ v :+ :0 :* w) (λ x v w. x :+ v) tt _ _ (B i)
        ∙ ap₂ (λ x v. plus p (times p x (A i)) (times p v (B i))) (ap (mk p) c_is ∙ sym (poly_at p b d)) (y_is ∙ ap (minus p) (sym (poly_at p a d)))) h)
        (λ i l. lower_below i (omega (arith, some)))

    pub one_cancelled : PseudoRemainder p (length a - 1) B A out
    one_cancelled = record {
      reduced = h.reduced;
      below = subst (Below (Zmod p) (length a - 1)) (sym lower_is) (λ i l. lower_below i (omega arith));
      factor = B d;
      unit = (leads_leading P divisor).unit;
      congruent = subst (λ s. Congruent (Zmod p) B s (scaled (Zmod p) (B d) A)) (sym lower_is)
          (subst (λ s. Congruent (Zmod p) B (sums (Zmod p) (scaled (Zmod p) (B d) A) s) (scaled (Zmod p) (B d) A))
          (sym (conv_scalar (Zmod p) (minus p (A d)) B))
          (plus_multiple_congruent (Zmod p) (B d) A B (const (Zmod p) (minus p (A d))) (poly_const (Zmod p) _)));
    }

  -- ── more words in a: `part` is what came back of the words before a's last, at k

  module _ (c y z y₀ z₀ z₁ : ℕ) (part : List ℕ) (longer : length b < length a) (c_is : Residue p (times p (mk p (get_or b d 0)) (mk p (get_or b d 0))) c)
      (y₀_is : mk p y₀ ≡ minus p (mk p (get_or a (length a - 1) 0))) (y_is : Residue p (times p (mk p y₀) (mk p (get_or b d 0))) y)
      (z₁_is : z₁ ≡ get_or (0 ∷ b) d 0) (z₀_is : mk p z₀ ≡ minus p (mk p (get_or a (length a - 1 - 1) 0)))
      (z_is : Residue p (plus p (times p (mk p (get_or a (length a - 1) 0)) (mk p z₁)) (times p (mk p z₀) (mk p (get_or b d 0)))) z)
      (kept : length part ≡ length a - 1) (low : Reduced p a)
      (h : Residues p (sums (Zmod p) (scaled (Zmod p) (mk p c) (poly p (take (length a - 1) a)))
      (shift (Zmod p) (length (take (length a - 1) a) - length b) (conv (Zmod p) (linear (Zmod p) (mk p y) (mk p z)) B))) part) where
    abbrev k : ℕ
    k = length a - 1

    abbrev s : ℕ
    s = length (take k a) - length b

    s_is : s + suc (suc d) ≡ length a
    s_is = omega (arith, some, length-take k a)

    abbrev whole : Seq (Zmod p)
    whole = sums (Zmod p) (scaled (Zmod p) (mk p c) A) (shift (Zmod p) s (conv (Zmod p) (linear (Zmod p) (mk p y) (mk p z)) B))

    -- the words by which the last two of a are cancelled
    last_b : mk p (get_or b d 0) ≡ B d
    last_b = sym (poly_at p b d)

    last_a : mk p (get_or a k 0) ≡ A (s + suc d)
    last_a = sym (poly_at p a k) ∙ ap A (omega (arith, s_is))

    next_a : mk p (get_or a (k - 1) 0) ≡ A (s + d)
    next_a = sym (poly_at p a (k - 1)) ∙ ap A (omega (arith, s_is))

    behind : (i : ℕ) → mk p (get_or (0 ∷ b) i 0) ≡ head_then (Zmod p) (mk p 0) B i
    behind zero = refl
    behind (suc i) = sym (poly_at p b i)

    square : mk p c ≡ times p (B d) (B d)
    square = c_is.class ∙ ap₂ (times p) last_b last_b

    whole_below : Below (Zmod p) (s + d) whole
    whole_below = cancelled_two (Zmod p) s d A B (mk p c) (mk p y) (mk p z) below_b (poly_below p a _ (omega (arith, s_is)))
        square
        (y_is.class ∙ ap₂ (times p) (y₀_is ∙ ap (minus p) last_a) last_b)
        (z_is.class ∙ ap₂ (plus p) (ap₂ (times p) last_a (ap (mk p) z₁_is ∙ behind d)) (ap₂ (times p) (z₀_is ∙ ap (minus p) next_a) last_b))

    abbrev out : List ℕ
    out = set (part ++ drop k a) k 0

    inside : (i : ℕ) → i < k → get_or out i 0 ≡ get_or part i 0
    inside i l = get_or-set_other (part ++ drop k a) k i 0 0 (omega arith) ∙ front_inside a part k kept i l

    past : (i : ℕ) → k ≤ i → get_or out i 0 ≡ 0
    past i l = go (dec_lt k i)
      where
        go : Dec (k < i) → get_or out i 0 ≡ 0
        go (yes m) =
            get_or-set_other (part ++ drop k a) k i 0 0 (omega arith) ∙ front_past a part k kept i l ∙ get_or-eq_default a 0 (omega arith)
        go (no m) =
            let e : k ≡ i = omega arith in
            subst (λ t. get_or out t 0 ≡ 0) e (get_or-set_same (part ++ drop k a) k 0 0 (omega (arith, length-append part (drop k a), length-drop k a)))

    whole_is : poly p out ≡ whole
    whole_is = fun_ext λ i. poly_at p out i ∙ go i (dec_lt i k)
      where
        go : (i : ℕ) → Dec (i < k) → mk p (get_or out i 0) ≡ whole i
        go i (yes l) =
            ap (mk p) (inside i l) ∙ sym (poly_at p part i) ∙ h.coefficients i (omega arith)
            ∙ ap (λ x. plus p (times p (mk p c) x) (shift (Zmod p) s (conv (Zmod p) (linear (Zmod p) (mk p y) (mk p z)) B) i)) (poly_front p k a i l)
        go i (no l) = ap (mk p) (past i (omega arith)) ∙ sym (whole_below i (omega (arith, s_is)))

    reduced : Reduced p out
    reduced i = go (dec_lt i k)
      where
        go : Dec (i < k) → get_or out i 0 < p
        go (yes l) = omega (arith, inside i l, h.reduced i)
        go (no l) = omega (arith, past i (omega arith), prime_pos P)

    pub two_cancelled : PseudoRemainder p (length a - 2) B A out
    two_cancelled = record {
      reduced = reduced;
      below = subst (Below (Zmod p) (length a - 2)) (sym whole_is) (λ i l. whole_below i (omega (arith, s_is)));
      factor = mk p c;
      unit = subst (Inverse (Zmod p)) (sym square) (unit_product (Zmod p) (B d) (B d) (leads_leading P divisor).unit (leads_leading P divisor).unit);
      congruent = subst (λ s. Congruent (Zmod p) B s (scaled (Zmod p) (mk p c) A)) (sym whole_is)
          (shifted_congruent (Zmod p) s (mk p c) (mk p y) (mk p z) A B);
    }
