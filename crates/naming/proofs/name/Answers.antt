-- `naming::name` meets its contract. Assumes nothing.
use Rattle.std.proofs.Common.{le_of_lt}
use Rattle.std.proofs.lemmas.Result.{err_from_is_err_and}
use Rattle.naming.proofs.name.Goals as goal

pub returns-in_err-curve_allowed : goal.returns-in_err-curve_allowed
returns-in_err-curve_allowed c =
    let p = err_from_is_err_and c.from_residual.result c.from_residual.ensures.1 in
    rw (p.1, p.2) c.in_err-curve_allowed.ensures

pub j_value-requires : goal.j_value-requires
j_value-requires c =
    let yes = c.in_ok-curve_allowed.ensures.0 in
    record {
      prime = yes.0.prime;
      p_bound = le_of_lt yes.0.most;
      nonsingular = yes.1.1.0;
    }

pub returns : goal.returns
returns c = (c.in_ok-curve_allowed.ensures.0, c.j_value.ensures)
