-- `printing::written_text` meets its contract. Assumes nothing.
use Rattle.std.proofs.Common.{arith, length, length-take, length-take-le, subst, sym}
use Rattle.printing.specs.Room.{Within}
use Rattle.printing.proofs.written_text.Goals as goal

pub slice_bounds-word_lines-end : goal.slice_bounds-word_lines-end
slice_bounds-word_lines-end c =
    sym (length-take-le c.in-Ok.count c.args.words.now (subst (λ w. Within w (length c.args.words.now)) c.in-Ok.is c.requires.0))

pub word_lines-requires : goal.word_lines-requires
word_lines-requires c = simp length-take (omega arith)
