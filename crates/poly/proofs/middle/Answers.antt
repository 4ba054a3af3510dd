-- `poly::middle` meets its contract. Assumes nothing.
use Rattle.std.proofs.Common.{ap, ◌*◌, ◌∙◌}
use Rattle.poly.proofs.middle.Goals as goal

pub returns-then-k-eq0 : goal.returns-then-k-eq0
returns-then-k-eq0 c =
    record {
      even = λ e. c.product.ensures ∙ ap (λ n. n * n) c.word-m.ensures;
      odd = λ h. absurd (h c.if-k-eq0.true);
    }
