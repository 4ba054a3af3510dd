-- `text::word_lines` meets its contract. The invariant: the lines of the first i words stand at the front. Assumes nothing.
use Rattle.std.proofs.Common.{ap, arith, length, length-drop, length-take, refl, rules, take, take_all, ◌*◌, ◌++◌, ◌-◌, ◌∙◌, ◌≡◌}
use Rattle.text.specs.Text.{hex_line, hex_lines}
use Rattle.text.specs.Fills.{fills_length, fills_as, fills_part}
use Rattle.text.specs.Lines.{length_hex_line, hex_lines_more}
use Rattle.text.proofs.word_lines.Goals as goal

pub loop-i-init : goal.loop-i-init
unfolding hex_lines
loop-i-init c = (search rules, record { count_is = refl; bytes = refl })

pub hex_line-requires : goal.hex_line-requires
hex_line-requires c = simp (length-take, length-drop) (omega arith)

pub loop-i-preserved : goal.loop-i-preserved
loop-i-preserved c =
    let at = c.args in
    let loop = c.loop-i in
    let i = loop.i in
    let line = c.hex_line in
    let nine : line.result ≡ 9 = line.ensures.count_is ∙ length_hex_line 8 c.from.result in
    let more = fills_part loop.invariant.1 (length loop.out - 9 * i) (omega arith) line.ensures in (
      fills_length more (omega arith),
      fills_as more
          (ap (λ w. hex_lines (take i at.words.now) ++ hex_line 8 w) c.from.ensures
          ∙ hex_lines_more at.words.now i (omega arith))
          (omega arith),
    )

pub returns : goal.returns
returns c =
    let words = c.args.words.now in
    let all : c.loop-i.i ≡ length words = omega arith in
    fills_as c.loop-i.invariant.1 (ap hex_lines (take_all c.loop-i.i words (omega arith))) (ap (λ n. 9 * n) all)
