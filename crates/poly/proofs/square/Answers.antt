-- `poly::square` meets its contract: the remainders of the sums are the residues of the square. Assumes nothing.
use Rattle.std.proofs.Common.{arith, length, rules, subst, ℕ, ◌*◌, ◌^◌, ◌≡◌, ◌≤◌}
use Rattle.barrett.specs.Modulus.{prepared, prepared_positive, prepared_below}
use Rattle.rows.specs.Room.{turns}
use Rattle.rows.specs.Sums.{product_sums, sums_residues}
use Rattle.poly.proofs.square.Goals as goal

-- as many turns, where there are as many sums as coefficients
same_turns : (n k l p : ℕ) → l ≡ k → 8 * turns n l * p ≤ 2 ^ 36 → 8 * turns n k * p ≤ 2 ^ 36
same_turns n k l p e = subst (λ j. 8 * turns n j * p ≤ 2 ^ 36) e

pub square_by_coefficients-requires : goal.square_by_coefficients-requires
square_by_coefficients-requires c =
    let m = prepared c.args.m in
    (prepared_positive m, omega (arith, prepared_below m), c.requires.reduced.0)

pub square-requires : goal.square-requires
square-requires c =
    let a = c.args in
    let m = prepared a.m in record {
      a_in_bounds = (c.requires.acc_len.1, c.requires.acc_len.2);
      p_nonzero = (
        prepared_positive m,
        omega (arith, prepared_below m),
        c.requires.reduced.0,
        same_turns (length a.a.now) (length a.acc.now) _ a.m.p (omega arith) c.requires.reduced.1,
      );
    }

pub remainders-requires : goal.remainders-requires
remainders-requires c =
    let a = c.args in
    let few = same_turns (length a.a.now) (length a.acc.now) (length a.out.now) a.m.p (omega arith) c.requires.reduced.1 in
    record { len_bound = omega arith; by_index = (product_sums (prepared_positive (prepared a.m)) few c.square.ensures).bounded }

pub returns : goal.returns
returns c =
    let a = c.args in
    let few = same_turns (length a.a.now) (length a.acc.now) (length a.out.now) a.m.p (omega arith) c.requires.reduced.1 in
    sums_residues (search rules) (product_sums (prepared_positive (prepared a.m)) few c.square.ensures) c.remainders.ensures
