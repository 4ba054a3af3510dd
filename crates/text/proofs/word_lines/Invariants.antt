use Rattle.std.proofs.Common.{length, take, ◌*◌, ◌≡◌}
use Rattle.text.specs.Text.{hex_lines}
use Rattle.text.specs.Fills.{Fills}
use Rattle.text.proofs.word_lines.Given as goal

abbrev pub invariant-loop-i : goal.invariant-loop-i
invariant-loop-i l = (length l.out ≡ length l.initial.out) × Fills (hex_lines (take l.i l.words)) l.initial.out l.out (9 * l.i)
