-- `velu::kernel` meets its contract. Assumes nothing.
use Rattle.std.proofs.Common.{arith, inl, inr, refl, ◌∙◌}
use Rattle.std.proofs.lemmas.Result.{err_from_is_err_and}
use Rattle.questions.specs.Joined.{no_before}
use Rattle.sheet.specs.declared.Form.TheVariants.{Kernel}
use Rattle.sheet.specs.Values.{values_of, gOf}
use Rattle.sheet.specs.Asked.{asked}
use Rattle.promises.specs.Asked.{last_ask}
use Rattle.velu.proofs.kernel.Goals as goal

pub returns-then-answer-lt-MOST_WORDS : goal.returns-then-answer-lt-MOST_WORDS
returns-then-answer-lt-MOST_WORDS c = (inl (refl, λ room. omega (arith, c.if-answer-lt-MOST_WORDS.true)), refl)

pub returns-in_err-v : goal.returns-in_err-v
returns-in_err-v c =
    let ws = c.args.ws.now in
    let p = err_from_is_err_and c.from_residual.result c.from_residual.ensures.1 in
    let unread = no_before (asked Kernel ws) (last_ask (values_of Kernel ws) (gOf Kernel ws)) _ c.in_err-v.ensures in
    rw (p.1, p.2) (inr (omega (arith, c.if-answer-lt-MOST_WORDS.false), unread), refl)

pub kernel_accepted-requires : goal.kernel_accepted-requires
kernel_accepted-requires c = record {
  all_yes = (c.in_ok-v.ensures.0, c.new.ensures ∙ c.in_ok-v.ensures.1);
  room = omega arith;
}
