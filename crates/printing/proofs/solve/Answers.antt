-- `printing::solve` meets its contract. Assumes nothing.
use Rattle.std.proofs.Common.{arith, length, refl, rules, subst, sym, ◌≡◌}
use Rattle.sheet.specs.Form.{most_words}
use Rattle.printing.specs.Printing.{blank, SolveText}
use Rattle.printing.specs.Room.{Within, solve_within}
use Rattle.printing.proofs.Printed.{printed}
use Rattle.printing.proofs.solve.Goals as goal

pub written_text-requires : goal.written_text-requires
written_text-requires c =
    let call = c.solve-written in
    let words : most_words ≡ length call.new.answer = sym call.auto.answer in (
      subst (Within call.result) words
          (solve_within c.args.bytes.now blank call.new.answer call.result call.ensures),
      omega (arith, words),
      search rules,
    )

pub returns : goal.returns
returns c =
    let call = c.solve-written in
    printed (SolveText c.args.bytes.now)
    c.written_text.ensures
    (record { after = call.new.answer; answer = call.result; right = call.ensures; text_is = refl })
