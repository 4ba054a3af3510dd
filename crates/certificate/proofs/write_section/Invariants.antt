use Rattle.std.proofs.Common.{map, ◌≡◌}
use lib.Seq.{paste}
use Rattle.sheet.specs.Word.{word}
use Rattle.sheet.specs.Code.{code}
use Rattle.certificate.proofs.write_section.Given as goal

abbrev pub invariant-loop-i : goal.invariant-loop-i
invariant-loop-i l = l.out ≡ paste l.initial.out l.from (map (word (code l.kind)) l.xs) l.i
