-- The image of a point from what code computes: the values of g, N and N'g − 2Ng' at its abscissa, and one inverse.
-- Assumes nothing.
use mathlib.Core.Path.{◌≡◌, refl, sym, ◌∙◌, ap, ap₂, subst}
use mathlib.Core.Logic.{◌↔◌, inl}
use mathlib.Core.Bool.{Bool, true, false, false≢true}
use mathlib.Core.List.{List, [], ◌∷◌}
use Prim.Native.Nat.{ℕ, suc, ◌+◌, ◌-◌, ◌*◌, ◌<◌, ◌≤◌}
use native.Mathlib.Omega.{arith}
use lib.Dec.{eqb}
use lib.ListN.{length}
use Rattle.std.specs.Prelude.{Ok, Err}
use Rattle.ring.specs.Ring
use Rattle.ring.specs.Ring.{cast, pow}
use Rattle.ring.specs.Identity.{solve3}
use Rattle.ring.specs.Identity.Ex.{◌:*◌, :-◌}
use Rattle.series.specs.Series.{Seq, ∂}
use Rattle.series.specs.Degree.{Below}
use Rattle.series.specs.Value.{value}
use Rattle.zmod.specs.Zmod.{Elt, Zmod, mk, plus, times, minus, mk_add, mk_mul, mk_sub, cast_mk}
use Rattle.zmod.specs.Residues.{Residue, poly, poly_past, residue_same}
use Rattle.isogeny.specs.Curve.{OnCurve}
use Rattle.isogeny.specs.Rules.{W_at, g_at, N_at}
use Rattle.isogeny.proofs.Theorems.{W_at_is}
use Rattle.field.specs.Inverse.{InverseOf}
use Rattle.evaluation.specs.declared.Jet.{Jet}
use Rattle.evaluation.specs.Jets.{JetOf}
use Rattle.sheet.specs.declared.Values.{Values}
use Rattle.sheet.specs.declared.Form.TheVariants.{Certificate}
use Rattle.questions.specs.Questions.{AllYes}
use Rattle.questions.specs.Joined.{no_after, all_all}
use Rattle.questions.specs.declared.refusal.Refusal.TheVariants as refusal
use Rattle.sheet.specs.Asked.{asked}
use Rattle.sheet.specs.Ready.{Ready, HoldsG, HoldsN}
use Rattle.sheet.specs.Values.{gOf, n_of, values_of, question, half}
use Rattle.reading.specs.Accepted.{certificate_g, certificate_n}
use Rattle.promises.specs.declared.Point.{Point}
use Rattle.promises.specs.declared.Point.TheVariants as point
use Rattle.promises.specs.Asked.{check_asks, OnDomain, Given}
use Rattle.promises.specs.Answer.{ToPoint, PushRight}
use Rattle.promises.specs.Certificates.{check_asked}
use Rattle.pushing.specs.Pushed.{slope_of, Pushed}
use Rattle.pushing.proofs.Elements.{not-zero, same, quotient_square, quotient_cube}
use Rattle.ring.specs.Powers.{squared}

-- ── question 12

module _ (v : Values) (x y : ℕ) where
  pub outside_x : v.p ≤ x → (false ≡ true) ↔ OnDomain v x y
  outside_x h = (λ t. absurd (false≢true t), λ w. absurd (omega (arith, w.x_below)))

  pub outside_y : v.p ≤ y → (false ≡ true) ↔ OnDomain v x y
  outside_y h = (λ t. absurd (false≢true t), λ w. absurd (omega (arith, w.y_below)))

  pub inside : {t : Bool} → x < v.p → y < v.p → (t ≡ true) ↔ OnCurve (Zmod v.p) (question v).A (question v).B (mk v.p x) (mk v.p y)
      → (t ≡ true) ↔ OnDomain v x y
  inside hx hy h = (λ t. record { x_below = hx; y_below = hy; on = h.0 t }, λ w. h.1 w.on)

  pub on_curve : {r s : ℕ} → Residue v.p (times v.p (mk v.p y) (mk v.p y)) r
      → Residue v.p (plus v.p (plus v.p (pow (Zmod v.p) (mk v.p x) 3) (times v.p (mk v.p v.a) (mk v.p x))) (mk v.p v.b)) s
      → (eqb r s ≡ true) ↔ OnCurve (Zmod v.p) (question v).A (question v).B (mk v.p x) (mk v.p y)
  unfolding OnCurve
  on_curve hr hs = same (residue_same (squared (Zmod v.p) (mk v.p y)) hr) hs

-- ── N'g − 2Ng'

-- 2 (p − N) for −2N
pub slope_is : (p : ℕ) (g n : Jet) (s t : ℕ) {r : ℕ} → n.value < p → s ≡ n.slope * g.value → t ≡ 2 * (p - n.value) * g.slope
    → Residue p (mk p (s + t)) r → Residue p (slope_of p g n) r
slope_is p g n s t l es et h =
    residue_same
    (mk_add p s t
    ∙ ap₂ (plus p) (ap (mk p) es ∙ mk_mul p n.slope g.value)
    (ap (mk p) et ∙ mk_mul p (2 * (p - n.value)) g.slope
    ∙ ap (λ z. times p z (mk p g.slope)) (mk_mul p 2 (p - n.value) ∙ ap₂ (times p) (sym (cast_mk p 2)) opposite)
    ∙ solve3 (Zmod p) (λ a b c. a :* (:- b) :* c) (λ a b c. :- (a :* b :* c)) tt (cast (Zmod p) 2) (mk p n.value) (mk p g.slope)))
    h
  where
    opposite : mk p (p - n.value) ≡ minus p (mk p n.value)
    opposite = ap (mk p) (omega arith) ∙ mk_sub {p = p} (omega arith) 0 n.value (omega arith) ∙ Ring.zero-add (Zmod p) _

-- ── the image

module _ (v : Values) (ready : Ready v) (g n : List ℕ) (g_length : length g ≡ half v + 1) (n_length : length n ≡ 2 * half v + 2) (x y : ℕ) where
  abbrev p : ℕ
  p = v.p

  g_long : length g ≡ suc (half v)
  g_long = omega arith

  n_long : length n ≡ suc (2 * half v + 1)
  n_long = omega arith

  at : ℕ → Seq (Zmod p) → Elt p
  at k a = value (Zmod p) k a (mk p x)

  module _ (gx : Jet) (hg : JetOf p g (mk p x) gx) where
    pub to_infinity : gx.value ≡ 0 → Pushed v g n x y point.Infinity
    unfolding at
    to_infinity e = ap (λ k. at k (poly p g)) (sym g_long) ∙ sym hg.value_is.class ∙ ap (mk p) e

    -- w is y(N'g − 2Ng') there, i the inverse of g(x), s its square
    pub to_point : (nx : Jet) {d w i s u t r : ℕ} → (gx.value ≡ 0 → ⊥) → JetOf p n (mk p x) nx → Residue p (slope_of p gx nx) d
        → Residue p (times p (mk p y) (mk p d)) w → InverseOf p gx.value i → Residue p (times p (mk p i) (mk p i)) s
        → Residue p (times p (mk p nx.value) (mk p s)) u → Residue p (times p (mk p w) (mk p i)) t → Residue p (times p (mk p t) (mk p s)) r
        → ToPoint v g n x y u r
    unfolding at
    to_point nx {d} {w} {i} {s} {u} {t} {r} nonzero hn hd hw hi hs hu ht hr =
        let G : mk p gx.value ≡ g_at (Zmod p) (question v) (poly p g) (mk p x) = hg.value_is.class ∙ ap (λ k. at k (poly p g)) g_long in
        let M : mk p nx.value ≡ N_at (Zmod p) (question v) (poly p n) (mk p x) = hn.value_is.class ∙ ap (λ k. at k (poly p n)) n_long in
        let W : mk p d ≡ W_at (Zmod p) (question v) (poly p g) (poly p n) (mk p x) =
        hd.class
        ∙ ap₂ (λ a b. plus p a (minus p b))
        (ap₂ (times p) (hn.slope_is.class ∙ ap (λ k. at k (∂ (Zmod p) (poly p n))) n_long) G)
        (ap₂ (times p) (ap (times p (cast (Zmod p) 2)) M) (hg.slope_is.class ∙ ap (λ k. at k (∂ (Zmod p) (poly p g))) g_long))
        ∙ sym (W_at_is ready.prime.prime (question v) (poly p g) (poly p n) (subst (λ k. Below (Zmod p) k (poly p g)) g_long (poly_past p g))
        (subst (λ k. Below (Zmod p) k (poly p n)) n_long (poly_past p n)) (mk p x)) in
        record {
          u_below = hu.below;
          w_below = hr.below;
          image = record {
            defined = λ e. not-zero hg.value_is nonzero (ap (λ k. at k (poly p g)) g_long ∙ e);
            abscissa =
                ap₂ (λ a b. times p a (pow (Zmod p) b 2)) (hu.class ∙ ap (times p (mk p nx.value)) hs.class) (sym G)
                ∙ quotient_square (Zmod p) (mk p gx.value) (mk p i) hi.unit (mk p nx.value) ∙ M;
            ordinate =
                ap₂ (λ a b. times p a (pow (Zmod p) b 3))
                (hr.class ∙ ap₂ (times p) (ht.class ∙ ap (λ z. times p z (mk p i)) hw.class) hs.class) (sym G)
                ∙ quotient_cube (Zmod p) (mk p gx.value) (mk p i) hi.unit (mk p y) (mk p d) ∙ ap (times p (mk p y)) W;
          };
        }

-- ── the answer

module _ (ws : List ℕ) (all : AllYes (check_asks ws)) (at : Point) where
  abbrev v : Values
  v = values_of Certificate ws

  pub infinity : at ≡ point.Infinity → PushRight ws at (Ok point.Infinity)
  infinity e = subst (λ q. PushRight ws q (Ok point.Infinity)) (sym e) (all_all (check_asks ws) ((12, Given v point.Infinity) ∷ []) all (tt, tt), tt)

  module _ (x y : ℕ) (is : at ≡ point.Affine x y) where
    pub off : (OnDomain v x y → ⊥) → PushRight ws at (Err refusal.Point)
    off out =
        subst (λ q. PushRight ws q (Err refusal.Point)) (sym is)
        (no_after (check_asks ws) ((12, Given v (point.Affine x y)) ∷ []) 12 all (inl (refl, out)))

    pub pushed : (to : Point) → OnDomain v x y → Pushed v (gOf Certificate ws) (n_of Certificate ws) x y to → PushRight ws at (Ok to)
    pushed to on goes =
        subst (λ q. PushRight ws q (Ok to)) (sym is) (all_all (check_asks ws) ((12, Given v (point.Affine x y)) ∷ []) all (on, tt), goes)

-- as code has the values and the coefficients
module _ (ws : List ℕ) (v : Values) (e : v ≡ values_of Certificate ws) where
  module _ (all : AllYes (check_asks ws)) (g n : List ℕ) (g_is : g ≡ gOf Certificate ws) (n_is : n ≡ n_of Certificate ws) where
    accepted : AllYes (asked Certificate ws)
    accepted = check_asked ws all

    pub g_holds : HoldsG v g
    g_holds = subst (λ v. HoldsG v g) (sym e) (subst (HoldsG (values_of Certificate ws)) (sym g_is) (certificate_g ws accepted))

    pub n_holds : HoldsN v n
    n_holds = subst (λ v. HoldsN v n) (sym e) (subst (HoldsN (values_of Certificate ws)) (sym n_is) (certificate_n ws accepted))

    pub of_sheet : (x y : ℕ) (r : Point) → Pushed v g n x y r → Pushed (values_of Certificate ws) (gOf Certificate ws) (n_of Certificate ws) x y r
    of_sheet x y r h =
        subst (λ v. Pushed v (gOf Certificate ws) (n_of Certificate ws) x y r) e
        (subst (λ g. Pushed v g (n_of Certificate ws) x y r) g_is (subst (λ n. Pushed v g n x y r) n_is h))
