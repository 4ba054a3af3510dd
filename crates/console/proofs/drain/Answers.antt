-- A piece is added to what the input gave before it.
use Rattle.std.proofs.Common.{◌++◌, arith, length-append}
use Rattle.std.proofs.KnownBytes.{Consumes-trans}
use Rattle.console.proofs.drain.Goals as goal

pub loop-preserved : goal.loop-preserved
loop-preserved g c =
    let (got, gave, count) = c.loop.invariant.1 in
    let (more, gives, n) = c.piece-n.ensures.gives in
    (omega arith, (got ++ more, Consumes-trans _ _ _ _ _ gave gives, omega (arith, length-append got more, count, n)))
