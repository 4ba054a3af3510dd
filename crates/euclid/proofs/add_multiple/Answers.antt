-- `euclid::add_multiple` meets its contract. Assumes nothing.
use Rattle.std.proofs.Common.{List, arith, drop, length, length-drop, length-take, length-take-le, set, sym, take, ℕ, ◌++◌, ◌+◌, ◌-◌, ◌≡◌, ◌≤◌}
use Rattle.slices.specs.Stored.{part_below}
use Rattle.zmod.specs.Residues.{reduced_take}
use Rattle.barrett.specs.Modulus.{prepared, prepared_positive}
use Rattle.euclid.specs.Combination.{first_at, second_length, second_reduced, rear_length, all_length, added_residues}
use Rattle.euclid.proofs.add_multiple.Goals as goal

pub slice_bounds-scale-end-2 : goal.slice_bounds-scale-end-2
slice_bounds-scale-end-2 c =
    let a = c.args in
    sym (length-take-le (length a.a.now - length a.b.now) a.a.now (omega arith))

pub scale-requires : goal.scale-requires
scale-requires c =
    let a = c.args in
    (c.requires.lt_p.0, reduced_take a.a.now (prepared_positive (prepared a.m)) (length a.a.now - length a.b.now) c.requires.reduced.0)

-- as many words are scaled as a has more than b, and then there are as many left as b has after its first
front_size : (a b front : List ℕ) → length front ≡ length (take (length a - length b) a) → length front ≡ length a - length b
front_size a b front same = omega (arith, same, length-take (length a - length b) a)

rear_size : (a b front rear : List ℕ) (v : ℕ) → length b ≤ length a → length front ≡ length a - length b
    → (let s = length a - length b in let all = set (front ++ drop s a) s v in length rear ≡ length (take (length all - (s + 1)) (drop (s + 1) all)))
    → length rear ≡ length b - 1
rear_size a b front rear v le size same = omega (arith, same, rear_length a b front v le size)

pub two_products-requires : goal.two_products-requires
two_products-requires c =
    let a = c.args in
    let word = first_at a.a.now a.b.now c.scale.new.out 0 c.requires.lt_p.4 (front_size _ _ _ c.scale.auto.out) in
    (c.requires.lt_p.0, omega (arith, word, c.requires.reduced.0 (length a.a.now - length a.b.now)), c.requires.lt_p.2, c.requires.reduced.1 0)

pub slice_bounds-combine-count : goal.slice_bounds-combine-count
slice_bounds-combine-count c =
    omega (arith, second_length c.args.a.now c.args.b.now c.scale.new.out c.two_products.result c.requires.lt_p.4 (front_size _ _ _ c.scale.auto.out))

pub slice_bounds-combine-start : goal.slice_bounds-combine-start
slice_bounds-combine-start c =
    omega (arith, second_length c.args.a.now c.args.b.now c.scale.new.out c.two_products.result c.requires.lt_p.4 (front_size _ _ _ c.scale.auto.out))

pub slice_bounds-combine-end-2 : goal.slice_bounds-combine-end-2
slice_bounds-combine-end-2 c =
    let b = c.args.b.now in
    sym (length-take-le (length b - 1) b (omega arith))

pub combine-requires : goal.combine-requires
combine-requires c =
    let a = c.args in
    let b = a.b.now in
    let front = c.scale.new.out in
    let middle = c.two_products.result in
    let pos = prepared_positive (prepared a.m) in
    let from = length a.a.now - length b + 1 in
    let stored = set (front ++ drop (length a.a.now - length b) a.a.now) (length a.a.now - length b) middle in
    let rear = rear_length a.a.now b front middle c.requires.lt_p.4 (front_size _ _ _ c.scale.auto.out) in record {
      lt_p = (
        c.requires.lt_p.0,
        c.requires.lt_p.1,
        c.requires.lt_p.2,
        omega (arith, rear, length-take (length b - 1) b),
        omega (arith, rear, length-take (length b - 1) (drop 1 b), length-drop 1 b),
      );
      reduced = (
        part_below stored from (length stored - from) a.m.p pos
            (second_reduced a.a.now b front middle c.requires.lt_p.4 (front_size _ _ _ c.scale.auto.out) a.m.p c.requires.lt_p.3
            c.requires.reduced.0 c.scale.ensures.reduced c.two_products.ensures.below),
        reduced_take b pos (length b - 1) c.requires.reduced.1,
        part_below b 1 (length b - 1) a.m.p pos c.requires.reduced.1,
      );
    }

pub shape_of-a : goal.shape_of-a
shape_of-a c =
    let a = c.args in
    let front = c.scale.new.out in
    let middle = c.two_products.result in
    all_length a.a.now a.b.now front middle c.requires.lt_p.4 (front_size _ _ _ c.scale.auto.out) c.combine.new.out
    (rear_size a.a.now a.b.now front _ middle c.requires.lt_p.4 (front_size _ _ _ c.scale.auto.out) c.combine.auto.out) c.requires.lt_p.3

pub returns : goal.returns
returns c =
    let a = c.args in
    let front = c.scale.new.out in
    let middle = c.two_products.result in
    added_residues a.a.now a.b.now front middle a.m.p a.c a.y a.z c.combine.new.out (prepared_positive (prepared a.m)) c.requires.lt_p.3
    c.requires.lt_p.4 (front_size _ _ _ c.scale.auto.out)
    (rear_size a.a.now a.b.now front _ middle c.requires.lt_p.4 (front_size _ _ _ c.scale.auto.out) c.combine.auto.out)
    c.scale.ensures c.two_products.ensures c.combine.ensures
