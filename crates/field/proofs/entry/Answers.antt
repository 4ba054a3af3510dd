-- `field::entry` meets its contract. Assumes nothing.
use Rattle.std.proofs.Common.{arith, get_or, mod-lt, ◌%◌, ◌/◌, ◌<◌}
use Rattle.field.proofs.Table.{prime_odd, entry_low, entry_even, entry_high}
use Rattle.field.proofs.entry.Goals as goal

pub returns-then-k-lt2 : goal.returns-then-k-lt2
returns-then-k-lt2 c =
    entry_low c.args.k c.requires.prime c.if-k-lt2.true

pub halve-requires : goal.halve-requires
halve-requires c =
    let k = c.args.k in
    (((c.requires.filled (k / 2) (omega arith)).above_zero (omega arith)).below, prime_odd c.requires.prime (omega arith))

pub returns-then-k-eq0 : goal.returns-then-k-eq0
returns-then-k-eq0 c =
    let k = c.args.k in
    entry_even k (get_or c.args.table.now (k / 2) 0) c.halve.result c.if-k-lt2.false c.if-k-eq0.true
    (c.requires.filled (k / 2) (omega arith)) c.halve.ensures

pub returns : goal.returns
returns c =
    let earlier : c.args.p % c.args.k < c.args.k =
    mod-lt c.args.p (omega arith)
    in
    let k = c.args.k in
    let i = c.args.p % k in
    entry_high k (get_or c.args.table.now i 0) c.requires.prime c.if-k-lt2.false c.requires.k_lt_p.0
    (c.requires.filled i (earlier)) c.multiply.ensures
