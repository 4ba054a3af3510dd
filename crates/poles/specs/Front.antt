-- Rows that lie in the front of their slices: what combining the fronts makes of the polynomials.
-- Assumes nothing.
use Rattle.std.specs.Prelude.{◌≡◌, List, ◌++◌, ℕ, zero, suc, ◌+◌, ◌-◌, ◌≤◌, ◌<◌, length, take, drop}
use Rattle.std.proofs.Common.{sym, ◌∙◌, ap, ap₂, arith, length-take-le}
use Rattle.ring.specs.Ring.{CRing}
use Rattle.ring.specs.Identity.{solve3}
use Rattle.ring.specs.Identity.Ex.{:0, ◌:+◌, ◌:*◌}
use Rattle.series.specs.Series.{Seq, head_then}
use Rattle.series.specs.Degree.{Below}
use Rattle.zmod.specs.Zmod.{Elt, Zmod, mk, plus, minus, times}
use Rattle.zmod.specs.Residues.{Reduced, poly, Residues, residues_same, residues_poly}
use Rattle.euclid.specs.Words.{take_poly, front_poly, front_reduced}
use Rattle.euclid.specs.Combination.{shifted_at}
use Rattle.poles.specs.Rows.{combination}
use Rattle.poles.specs.Words.{cancelling}

-- `part` is what came back of the first `len` words of t, to which a multiple of the first `len - s` of u was added
module _ (p : ℕ) (t u part : List ℕ) (len s : ℕ) (c y z : Elt p) (inside : s < len) (enough_t : len ≤ length t) (enough_u : len ≤ length u)
    (low : Reduced p t) (below_t : Below (Zmod p) len (poly p t)) (below_u : Below (Zmod p) (len - s) (poly p u))
    (below : Below (Zmod p) len (combination (Zmod p) s c y z (poly p t) (poly p u))) (kept : length part ≡ length (take len t))
    (h : Residues p (combination (Zmod p) (length (take len t) - length (take (len - s) u)) c y z (poly p (take len t)) (poly p (take (len - s) u))) part) where
  long : length part ≡ len
  long = kept ∙ length-take-le len t enough_t

  difference : length (take len t) - length (take (len - s) u) ≡ s
  difference = omega (arith, length-take-le len t enough_t, length-take-le (len - s) u (omega arith))

  whole : Residues p (combination (Zmod p) s c y z (poly p t) (poly p u)) part
  whole =
      residues_same (ap (λ k. combination (Zmod p) k c y z (poly p (take len t)) (poly p (take (len - s) u))) difference
      ∙ ap₂ (combination (Zmod p) s c y z) (take_poly p t below_t) (take_poly p u below_u)) h

  pub front_combined : Reduced p (part ++ drop len t) × (poly p (part ++ drop len t) ≡ combination (Zmod p) s c y z (poly p t) (poly p u))
  front_combined = (
    front_reduced p t part len long low h.reduced,
    front_poly p t part len long below_t ∙ residues_poly whole (λ i l. below i (omega (arith, long))),
  )

-- a product with a linear polynomial is longer by a word
pub combination_below : (R : CRing) (len : ℕ) (c y z : R.Car) (t u : Seq R) → 0 < len → Below R len t → Below R (len - 1) u
    → Below R len (combination R 0 c y z t u)
combination_below R len c y z t u some below_t below_u zero l = absurd (omega arith)
combination_below R len c y z t u some below_t below_u (suc i) l =
    let e : 0 + suc i ≡ suc i = omega arith in
    ap (combination R 0 c y z t u) (sym e) ∙ shifted_at R 0 c y z t u (suc i)
    ∙ ap₂ (λ a b. R.add (R.mul c a) (R.add (R.mul z b) (R.mul y (u i)))) (ap t e ∙ below_t (suc i) l) (below_u (suc i) (omega arith))
    ∙ ap (λ b. R.add (R.mul c R.𝟘) (R.add (R.mul z R.𝟘) (R.mul y b))) (below_u i (omega arith))
    ∙ solve3 R (λ c y z. c :* :0 :+ (z :* :0 :+ y :* :0)) (λ c y z. :0) tt c y z

-- the factors, as the code computes them
pub cancelling_is : (p a₁ a₀ b₁ b₀ c y z y₀ z₀ : ℕ) (t u : Seq (Zmod p)) → mk p c ≡ times p (mk p b₁) (mk p b₁) → mk p y₀ ≡ minus p (mk p a₁)
    → mk p y ≡ times p (mk p y₀) (mk p b₁) → mk p z₀ ≡ minus p (mk p a₀)
    → mk p z ≡ plus p (times p (mk p a₁) (mk p b₀)) (times p (mk p z₀) (mk p b₁))
    → combination (Zmod p) 0 (mk p c) (mk p y) (mk p z) t u ≡ cancelling p a₁ a₀ b₁ b₀ t u
cancelling_is p a₁ a₀ b₁ b₀ c y z y₀ z₀ t u c_is y₀_is y_is z₀_is z_is =
    ap (λ v. combination (Zmod p) 0 v (mk p y) (mk p z) t u) c_is
    ∙ ap₂ (λ v w. combination (Zmod p) 0 (times p (mk p b₁) (mk p b₁)) v w t u) (y_is ∙ ap (λ v. times p v (mk p b₁)) y₀_is)
    (z_is ∙ ap (λ v. plus p (times p (mk p a₁) (mk p b₀)) (times p v (mk p b₁))) z₀_is)

-- a product with a constant is not
pub multiple_below : (R : CRing) (len s : ℕ) (c z : R.Car) (t u : Seq R) → s < len → Below R len t → Below R (len - s) u
    → Below R len (combination R s c R.𝟘 z t u)
multiple_below R len s c z t u inside below_t below_u i l =
    let j : ℕ = i - s in
    let e : s + j ≡ i = omega arith in
    ap (combination R s c R.𝟘 z t u) (sym e) ∙ shifted_at R s c R.𝟘 z t u j
    ∙ ap₂ (λ a b. R.add (R.mul c a) (R.add (R.mul z b) (R.mul R.𝟘 (head_then R R.𝟘 u j)))) (ap t e ∙ below_t i l) (below_u j (omega arith))
    ∙ solve3 R (λ c z v. c :* :0 :+ (z :* :0 :+ :0 :* v)) (λ c z v. :0) tt c z (head_then R R.𝟘 u j)
