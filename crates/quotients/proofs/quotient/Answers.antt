-- `quotients::quotient` meets its contract. Assumes nothing.
use Rattle.std.proofs.Common.{arith, drop, length, length-drop, length-take, replicate, subst, suc, ◌-◌, ◌≡◌}
use Rattle.slices.specs.Stored.{part_below}
use Rattle.barrett.specs.Modulus.{prepared, prepared_positive, prepared_below}
use Rattle.rows.specs.Product.{reduced_fits}
use Rattle.quotients.specs.Division.{backwards_reduced, blank_reduced, quotient_to}
use Rattle.quotients.proofs.quotient.Goals as goal

pub reverse-requires : goal.reverse-requires
reverse-requires c =
    let a = c.args in
    let pre = c.requires.q_nonzero in
    let d = length a.q.now - 1 in
    omega (arith, pre.0, pre.2, pre.4, length-take (length a.a.now - d) (drop d a.a.now), length-drop d a.a.now)

pub add_product-requires : goal.add_product-requires
add_product-requires c =
    let a = c.args in
    let d = length a.q.now - 1 in
    let p = a.m.p in
    let top = c.reverse in
    let blank = c.fill in record {
      a_in_bounds = (
        omega (arith, top.auto, blank.auto, c.requires.q_nonzero.3, c.requires.q_nonzero.4),
        omega (arith, blank.auto, c.requires.q_nonzero.3, c.requires.q_nonzero.5),
        omega
            (arith, top.auto, c.requires.q_nonzero.4, c.requires.q_nonzero.1),
        c.requires.p_bound.0,
        omega (arith, prepared_below (prepared c.args.m)),
      );
      by_index = (
        reduced_fits blank.new.self c.requires.p_bound.0
            (blank_reduced p (length a.acc.now) blank.new.self (prepared_positive (prepared c.args.m)) (blank.ensures.after (λ y h. h))),
        backwards_reduced (part_below a.a.now d (length a.a.now - d) p (prepared_positive (prepared c.args.m)) c.requires.p_bound.1) top.ensures,
        c.requires.p_bound.2,
        c.requires.p_bound.3,
      );
    }

pub remainders-requires : goal.remainders-requires
remainders-requires c =
    let top = c.reverse in
    let blank = c.fill in
    record {
      len_bound = omega (arith, top.auto, blank.auto, c.add_product.auto, c.requires.q_nonzero.3, c.requires.q_nonzero.4);
      by_index = c.add_product.ensures.bounded;
    }

pub reverse-requires-2 : goal.reverse-requires-2
reverse-requires-2 c =
    omega (arith, c.reverse.auto, c.remainders.auto, c.requires.q_nonzero.4)

pub returns : goal.returns
returns c =
    let a = c.args in
    let d = length a.q.now - 1 in
    let p = a.m.p in
    let top = c.reverse in
    let blank = c.fill in
    let sum = c.add_product in
    let product = c.remainders in
    let last = c.reverse-2 in
    let size : length a.acc.now ≡ suc d = omega (arith, c.requires.q_nonzero.0, c.requires.q_nonzero.3) in (
      backwards_reduced product.ensures.reduced last.ensures,
      quotient_to p d a.t.now a.a.now top.new.out blank.new.self sum.new.acc product.new.out last.new.out
          (omega (arith, c.requires.q_nonzero.0, c.requires.q_nonzero.2))
          top.ensures (subst (λ n. blank.new.self ≡ replicate n 0) size (blank.ensures.after (λ y h. h)))
          (omega (arith, blank.auto, sum.auto, size)) sum.ensures
          (omega (arith, top.auto, product.auto, c.requires.q_nonzero.0, c.requires.q_nonzero.4)) product.ensures last.ensures,
    )
