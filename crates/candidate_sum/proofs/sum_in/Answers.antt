-- `candidate_sum::sum_in` meets its contract. Assumes nothing.
use Rattle.std.proofs.Common.{List, arith, get_or, length, rules, subst, sym, ℕ, ◌*◌, ◌+◌, ◌<◌, ◌∙◌, ◌≡◌}
use Rattle.zmod.specs.Zmod.{Zmod, mk_apart}
use Rattle.zmod.specs.Prime.{Prime}
use Rattle.zmod.specs.Residues.{Reduced, poly_at}
use Rattle.sheet.specs.declared.Values.{Values}
use Rattle.sheet.specs.Values.{half, question}
use Rattle.sheet.specs.Ready.{half_least, half_most}
use Rattle.expansion.specs.Equations.{Solved}
use Rattle.expansion.specs.Stores.{solved_all}
use Rattle.recurrence.specs.Equations.{HAt}
use Rattle.recurrence.specs.Expands.{zeroth}
use Rattle.poles.specs.Poles.{PolesOf}
use Rattle.candidate_sum.proofs.CandidateSum.{candidate_sum_lem}
use Rattle.candidate_sum.proofs.sum_in.Goals as goal

-- the expansion, all of it
all_solved : (v : Values) (h before : List ℕ) → length h ≡ length before → Solved v.p (HAt (Zmod v.p) (question v)) h (length before)
    → Solved v.p (HAt (Zmod v.p) (question v)) h (length h)
all_solved v h before same = subst (Solved v.p (HAt (Zmod v.p) (question v)) h) (sym same)

pub sum_of_poles-requires : goal.sum_of_poles-requires
sum_of_poles-requires c =
    let v = c.args.v.values in
    let p = v.p in
    let r = c.args.v.ready in
    let words = c.expansion_of_curves.new.h in
    let size : length words ≡ 4 * half v + 1 = omega (arith, c.expansion_of_curves.auto, c.requires.table_len.1) in
    let solved = all_solved v words c.args.h.now c.expansion_of_curves.auto.h c.expansion_of_curves.ensures in
    let pos : 0 < p = omega (arith, r.prime.least) in
    let low : Reduced p words = solved_all p (HAt (Zmod p) (question v)) pos words (length words) (search rules) solved in
    let e = sym c.args.v.over in record {
      prime = (
        subst Prime e r.prime.prime,
        record {
          degree = 2 * half v;
          some = omega (arith, half_least v r);
          few = omega (arith, half_most v r);
          words = omega (arith, size);
          room = c.requires.t_len.1;
          least = omega (arith, size);
          most = omega (arith, size);
        },
        omega (arith, c.requires.t_len.0, c.requires.t_len.1),
      );
      reduced = (
        subst (λ p. Reduced p words) e low,
        mk_apart {p = p} pos (get_or words 0 0) 0 (low 0) pos (sym (poly_at p words 0) ∙ zeroth solved (omega (arith, size))),
      );
    }

pub returns : goal.returns
returns c =
    let v = c.args.v.values in
    let words = c.expansion_of_curves.new.h in
    candidate_sum_lem v words c.requires.determined (omega (arith, c.expansion_of_curves.auto, c.requires.table_len.1))
    (all_solved v words c.args.h.now c.expansion_of_curves.auto.h c.expansion_of_curves.ensures) c.sum_of_poles.result
    (subst (λ p. PolesOf p words c.sum_of_poles.result) c.args.v.over c.sum_of_poles.ensures)
