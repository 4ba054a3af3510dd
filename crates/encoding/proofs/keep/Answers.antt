-- `encoding::keep` meets its contract. Assumes nothing.
use Rattle.std.proofs.Common.{arith, length-take}
use Rattle.encoding.proofs.Loading.{loaded}
use Rattle.encoding.proofs.keep.Goals as goal

pub slice_bounds-load-end-2 : goal.slice_bounds-load-end-2
slice_bounds-load-end-2 c = omega (arith, c.min-n.ensures, length-take c.min-n.result c.args.words.now)

pub load-requires : goal.load-requires
load-requires c = omega (arith, c.min-n.ensures, length-take c.min-n.result c.args.words.now)

pub returns : goal.returns
returns c =
    loaded c.args.bytes.now c.args.words.now c.load.new.out c.min-n.result
    c.min-n.ensures c.load.ensures
