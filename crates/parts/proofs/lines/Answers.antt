-- `parts::lines` meets its contract: four lines of nine characters are the whole text. Assumes nothing.
use Rattle.std.proofs.Common.{List, ap, append-nil, arith, drop_of_length-le, ℕ, ◌++◌, ◌∙◌, ◌≤◌}
use Rattle.text.specs.Text.{hex_lines}
use Rattle.text.specs.Lines.{length_hex_lines}
use Rattle.parts.proofs.lines.Goals as goal

pub returns : goal.returns
returns c =
    let call = c.word_lines in
    let part = c.args.part.now in
    let whole : 36 ≤ call.result = omega (arith, call.ensures.count_is, length_hex_lines part, c.requires) in
    call.ensures.bytes ∙ ap (λ (l : List ℕ). hex_lines part ++ l) (drop_of_length-le _ {i = call.result} whole) ∙ append-nil (hex_lines part)
