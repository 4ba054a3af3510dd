-- `field::inverse` meets its contract: by Fermat. Assumes nothing.
use Rattle.std.proofs.Common.{ap, ◌∙◌}
use Rattle.zmod.specs.Zmod.{mk, times, mk_nonzero}
use Rattle.zmod.specs.Prime.{prime_pos}
use Rattle.zmod.specs.Fermat.{fermat_inverse}
use Rattle.field.proofs.inverse.Goals as goal

pub returns : goal.returns
returns c =
    let a = c.args.a in
    let p = c.args.p in
    record {
      below = c.power.ensures.below;
      unit =
          ap (times p (mk p a)) c.power.ensures.class
          ∙ fermat_inverse c.requires.prime (mk p a) (mk_nonzero (prime_pos c.requires.prime) a c.requires.a_nonzero.0 c.requires.a_nonzero.1);
    }
