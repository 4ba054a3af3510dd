-- `pushing::push_passed` meets its contract. Assumes nothing.
use Rattle.std.proofs.Common.{subst, sym}
use Rattle.questions.specs.Tests.{was_no, was_yes}
use Rattle.promises.specs.Asked.{OnDomain}
use Rattle.pushing.proofs.Images.{infinity, off, pushed, g_holds, n_holds, of_sheet}
use Rattle.pushing.proofs.push_passed.Goals as goal

pub image-requires : goal.image-requires
image-requires c =
    let a = c.args in (
      g_holds a.ws.now a.v.values c.requires.all_yes.1 c.requires.all_yes.0 a.g.now a.n.now c.requires.g_value.0 c.requires.g_value.1,
      n_holds a.ws.now a.v.values c.requires.all_yes.1 c.requires.all_yes.0 a.g.now a.n.now c.requires.g_value.0 c.requires.g_value.1,
      (was_yes c.within.ensures c.if-within.true).x_below,
    )

pub returns-in-Infinity : goal.returns-in-Infinity
returns-in-Infinity c =
    infinity c.args.ws.now c.requires.all_yes.0 c.args.point c.in-Infinity.is

pub returns-then-within : goal.returns-then-within
returns-then-within c =
    let a = c.args in
    pushed a.ws.now c.requires.all_yes.0 a.point c.in-Affine.x c.in-Affine.y c.in-Affine.is c.image.result
    (subst (λ v. OnDomain v c.in-Affine.x c.in-Affine.y) c.requires.all_yes.1 (was_yes c.within.ensures c.if-within.true))
    (of_sheet a.ws.now a.v.values c.requires.all_yes.1 c.requires.all_yes.0 a.g.now a.n.now c.requires.g_value.0 c.requires.g_value.1
    c.in-Affine.x c.in-Affine.y c.image.result c.image.ensures)

pub returns-else-within : goal.returns-else-within
returns-else-within c =
    let a = c.args in
    off a.ws.now c.requires.all_yes.0 a.point c.in-Affine.x c.in-Affine.y c.in-Affine.is
    (λ on. was_no c.within.ensures c.if-within.false (subst (λ v. OnDomain v c.in-Affine.x c.in-Affine.y) (sym c.requires.all_yes.1) on))
