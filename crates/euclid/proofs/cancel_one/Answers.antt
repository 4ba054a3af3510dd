-- `euclid::cancel_one` meets its contract. Assumes nothing.
use Rattle.std.proofs.Common.{get_or, length, refl, rules, ◌-◌}
use Rattle.barrett.specs.Modulus.{prepared, prepared_positive}
use Rattle.euclid.specs.Cancel.{one_cancelled}
use Rattle.euclid.proofs.cancel_one.Goals as goal

pub negate-a1-requires : goal.negate-a1-requires
negate-a1-requires c =
    c.requires.2 (length c.args.b.now - 1)

pub combine-requires : goal.combine-requires
combine-requires c =
    let b = c.args.b.now in
    let pre = c.requires in record {
      lt_p = (pre.1.reduced (length b - 1), c.negate-a1.ensures.below, prepared_positive (prepared c.args.m), search rules, search rules);
      reduced = (pre.2, pre.1.reduced, pre.1.reduced);
    }

pub returns : goal.returns
returns c =
    let a = c.args in
    let pre = c.requires in
    let p = a.m.p in
    let combine = c.combine in
    let last = get_or a.b.now (length a.b.now - 1) 0 in
    one_cancelled p a.a.now a.b.now pre.0 pre.1 last c.negate-a1.result combine.new.out pre.3 (search rules)
    refl c.negate-a1.ensures.class combine.ensures
