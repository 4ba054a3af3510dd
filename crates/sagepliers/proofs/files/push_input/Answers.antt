-- `sagepliers::files::push_input` meets its contract. Assumes nothing.
use Rattle.std.proofs.Common.{◌∙◌, ◌+◌, ◌*◌, ◌^◌, ap, ap₂, arith, drop, subst}
use Rattle.std.proofs.lemmas.Option.{MatchOption-at_some}
use Rattle.sheet.specs.Word.{word_at}
use Rattle.sagepliers.specs.Entry.{PushAnswer}
use Rattle.sagepliers.proofs.Loading.{word_take}
use Rattle.sagepliers.proofs.files.push_input.Goals as goal

pub returns : goal.returns
returns c =
    let bytes = c.args.bytes.now in
    let (front, rest, long) = MatchOption-at_some _ _ _ c.in_ok-point.ensures.ok_part c.split_first_chunk.ensures.cases in
    let number = c.number.ensures
    ∙ ap (λ b. word_at b 0 + 2 ^ 32 * word_at b 1) front
    ∙ ap₂ (λ x y. x + 2 ^ 32 * y) (word_take bytes 0 (omega arith)) (word_take bytes 1 (omega arith))
    in
    record {
      short = λ l. absurd (omega arith);
      long = λ l. subst (λ k. PushAnswer (drop 8 bytes) k c.push.result) number (subst (λ b. PushAnswer b c.number.result c.push.result) rest c.push.ensures);
    }
