-- `euclid::second` meets its contract. Assumes nothing.
use Rattle.std.proofs.Common.{ap, arith, get_or, length, suc, sym, ◌-◌, ◌∷◌, ◌≡◌}
use Rattle.euclid.proofs.second.Goals as goal

pub returns-then-n-lt2 : goal.returns-then-n-lt2
returns-then-n-lt2 c =
    let b = c.args.b.now in
    let e : length b - 1 ≡ 0 = omega arith in
    sym (ap (λ k. get_or (0 ∷ b) k 0) e)

pub returns-else-n-lt2 : goal.returns-else-n-lt2
returns-else-n-lt2 c =
    let b = c.args.b.now in
    let e : length b - 1 ≡ suc (length b - 2) = omega arith in
    sym (ap (λ k. get_or (0 ∷ b) k 0) e)
