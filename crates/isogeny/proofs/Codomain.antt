-- R3 gives the codomain from g: Ã = A − 5 h₁ and B̃ = B − 7 h₂, with nothing divided by.
-- Assumes nothing.
use Rattle.std.specs.Prelude.{◌↔◌, ◌≡◌, refl, ℕ, suc, ◌≤◌}
use Rattle.std.proofs.Common.{sym, ◌∙◌, ap, subst, arith}
use Rattle.ring.specs.Ring.{CRing, cast}
use Rattle.ring.specs.Identity.{solve2}
use Rattle.ring.specs.Identity.Ex.{◌:-◌}
use Rattle.series.specs.Series.{Seq}
use Rattle.series.specs.Degree.{Below}
use Rattle.series.specs.Recursion.{Before}
use Rattle.isogeny.specs.Rules.{Question, R1, R3, N}
use Rattle.isogeny.specs.Expansion.{expansion, PowerSums, power_sums_of}
use Rattle.isogeny.specs.Kernel.{kernel_question, Passes, codomain_A, codomain_B}
use Rattle.isogeny.proofs.Sums.{G_first, sums_only}
use Rattle.isogeny.proofs.Terms.{expansion_same}
use Rattle.isogeny.proofs.Conditions as C

pub codomain : (R : CRing) (q : Question R) → 1 ≤ q.d → (g : Seq R) → R1 R q g → R3 R q g (N R q g) → (s : Seq R) → PowerSums R q.d g 3 s
    → (q.Ã ≡ codomain_A R q.A q.B s) × (q.B̃ ≡ codomain_B R q.A q.B s)
codomain R q d≥1 g r1 r3 s sums = (
  back q.A q.Ã (ap (λ y. R.mul (cast R 5) y) (same 1 (omega arith)) ∙ C.first R q d≥1 g r1 r3),
  back q.B q.B̃ (ap (λ y. R.mul (cast R 7) y) (same 2 (omega arith)) ∙ C.second R q d≥1 g r1 r3),
)
  where
    same : Before R.Car 3 (expansion R q.A q.B s) (expansion R q.A q.B (power_sums_of R q.d g))
    same = expansion_same R q.A q.B 3 s (power_sums_of R q.d g) (sums_only R q.d g (G_first R q d≥1 g r1) 3 s sums)

    back : (x y : R.Car) {z : R.Car} → z ≡ R.add x (R.neg y) → y ≡ R.add x (R.neg z)
    back x y e = solve2 R (λ x y. y) (λ x y. x :- (x :- y)) tt x y ∙ ap (λ t. R.add x (R.neg t)) (sym e)

-- for a kernel sheet

pub kernel_R1 : (R : CRing) (A B : R.Car) (d : ℕ) (g : Seq R) → Below R (suc d) g → g d ≡ R.𝟙 → (Ã B̃ : R.Car) → R1 R (kernel_question R A B d g Ã B̃) g
kernel_R1 R A B d g below leading Ã B̃ = record { degree = below; leading = leading; sigma = refl }

pub kernel : (R : CRing) (A B : R.Car) (d : ℕ) → 1 ≤ d → (g : Seq R) → Below R (suc d) g → g d ≡ R.𝟙 → (s : Seq R) → PowerSums R d g 3 s
    → ((Ã : R.Car) × (B̃ : R.Car) × Passes R A B d g Ã B̃) ↔ Passes R A B d g (codomain_A R A B s) (codomain_B R A B s)
kernel R A B d d≥1 g below leading s sums = (there, λ passes. (codomain_A R A B s, codomain_B R A B s, passes))
  where
    there : (Ã : R.Car) × (B̃ : R.Car) × Passes R A B d g Ã B̃ → Passes R A B d g (codomain_A R A B s) (codomain_B R A B s)
    there (Ã, B̃, passes) =
        let forced : (Ã ≡ codomain_A R A B s) × (B̃ ≡ codomain_B R A B s) = codomain R (kernel_question R A B d g Ã B̃) d≥1 g
        (kernel_R1 R A B d g below leading Ã B̃) passes.1 s sums in
        subst (λ b. Passes R A B d g (codomain_A R A B s) b) forced.1 (subst (λ a. Passes R A B d g a B̃) forced.0 passes)
