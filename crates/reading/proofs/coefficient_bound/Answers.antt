-- `reading::coefficient_bound` meets its contract. Assumes nothing.
use Rattle.std.proofs.Common.{arith, mod-lt, subst, sym, ◌^◌}
use Rattle.reading.specs.Leaf.{Bounds}
use Rattle.reading.proofs.coefficient_bound.Goals as goal

pub returns-in-Question : goal.returns-in-Question
unfolding Bounds
returns-in-Question c =
    (subst (λ form. Bounds form c.args.p (2 ^ 28)) (sym c.in-Question.is) (λ x l. (λ _. mod-lt x c.requires.0, λ _. l)), omega arith)

pub returns-in-Certificate : goal.returns-in-Certificate
unfolding Bounds
returns-in-Certificate c =
    (subst (λ form. Bounds form c.args.p c.args.p) (sym c.in-Certificate.is) (λ x l. (λ h. h, λ h. h)), c.requires.1)

pub returns-in-Kernel : goal.returns-in-Kernel
unfolding Bounds
returns-in-Kernel c =
    (subst (λ form. Bounds form c.args.p (2 ^ 28)) (sym c.in-Kernel.is) (λ x l. (λ _. mod-lt x c.requires.0, λ _. l)), omega arith)
