-- The buffer was filled, and what was read behind it is counted.
use Rattle.std.proofs.Common.{◌≡◌, ◌+◌, ◌-◌, ◌++◌, length, take, drop, min, sym, ap, ◌∙◌, arith, length-append, length-drop, length-take, take_all, take_at}
use Rattle.std.proofs.KnownBytes.{Consumes-trans}
use Rattle.console.proofs.read.Goals as goal

pub returns-clause-front : goal.returns-clause-front
returns-clause-front g c =
    let kept = c.args.kept.now in
    let most = length kept - 3 in
    let filled = c.fill-n.new.kept in
    let n = c.fill-n.result in
    let (more, gives, count) = c.drain.ensures.gives in
    let long : length filled ≡ most = omega (arith, length-take most kept) in
    let all : take n filled ≡ filled = take_all n filled (omega arith) in
    let whole : length (filled ++ drop most kept) - 3 ≡ most = omega (arith, length-append filled (drop most kept), length-drop most kept) in
    let got = take n filled ++ more in
    let of : length got ≡ most + length more = omega (arith, length-append (take n filled) more, ap length all) in
    let least : min (length got) (length (filled ++ drop most kept) - 3) ≡ most = omega (arith, of, whole) in
    record {
      got = got;
      gave = Consumes-trans _ _ _ _ _ c.fill-n.ensures.front gives;
      front =
          ap (λ i. take i (filled ++ drop most kept)) least
          ∙ take_at filled (drop most kept) most long
          ∙ sym (ap (λ i. take i got) whole ∙ ap (λ l. take most (l ++ more)) all ∙ take_at filled more most long);
      count_is = omega (arith, least, whole, of, count);
    }
