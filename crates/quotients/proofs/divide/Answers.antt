-- `quotients::divide` meets its contract. Assumes nothing.
use Rattle.std.proofs.Common.{ap, arith, length, subst, ◌-◌, ◌≡◌}
use Rattle.quotients.specs.Division.{QuotientTo, divided}
use Rattle.quotients.proofs.divide.Goals as goal

pub quotient-requires : goal.quotient-requires
quotient-requires c =
    let ready = c.requires.p_bound.3 in
    let some = c.requires.p_bound.2.some in record {
      p_bound = (c.requires.p_bound.0, c.requires.p_bound.1, ready.reduced_t, ready.zeros_t);
      q_nonzero = (
        omega (arith, some, c.requires.g_len_bound.4),
        omega (arith, c.requires.g_len_bound.0, c.requires.g_len_bound.4),
        omega (arith, c.requires.g_len_bound.1, c.requires.g_len_bound.4),
        omega (arith, c.requires.g_len_bound.2, c.requires.g_len_bound.4),
        omega
            (arith, c.requires.g_len_bound.3, c.requires.g_len_bound.4),
        omega (arith, c.requires.g_len_bound.4, ready.long_t),
      );
    }

pub subtract_product-requires : goal.subtract_product-requires
subtract_product-requires c =
    let ready = c.requires.p_bound.3 in
    let q = c.quotient in record {
      p_bound = (c.requires.p_bound.0, c.requires.p_bound.1, q.ensures.0, ready.reduced_n, ready.zeros_n);
      q_len_bound = (
        omega (arith, c.requires.g_len_bound.0, c.requires.g_len_bound.4, q.auto),
        omega (arith, c.requires.g_len_bound.2, c.requires.g_len_bound.4, q.auto),
        omega (arith, c.requires.g_len_bound.5, c.requires.g_len_bound.4, q.auto),
        omega
            (arith, c.requires.g_len_bound.4, q.auto, ready.long_n),
      );
    }

pub returns : goal.returns
returns c =
    let a = c.args in
    let p = a.m.p in
    let q = c.quotient in
    let r = c.subtract_product in
    let d = length a.g.now - 1 in
    let same : length a.q.now - 1 ≡ d = ap (λ n. n - 1) c.requires.g_len_bound.4 in
    divided p d a.g.now a.t.now a.n.now a.a.now q.new.q r.new.r (omega (arith, c.requires.p_bound.2.some)) c.requires.p_bound.3
    (subst (λ n. QuotientTo p n a.t.now a.a.now q.new.q) same q.ensures.1) (omega (arith, r.auto, c.requires.g_len_bound.5)) r.ensures
