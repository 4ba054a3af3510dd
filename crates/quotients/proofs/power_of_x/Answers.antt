-- `quotients::power_of_x` meets its contract: its room is large enough. Assumes nothing.
use Rattle.std.proofs.Common.{arith, length-take}
use Rattle.std.proofs.lemmas.List.{length-replicate}
use Rattle.quotients.proofs.power_of_x.Goals as goal

pub power_in-requires : goal.power_in-requires
power_in-requires g c =
    record {
      p_bound = c.requires.p_bound;
      r_len = (
        c.requires.r_len.0,
        simp (length-take, length-replicate) (omega (arith, c.requires)),
        simp (length-take, length-replicate) (omega (arith, c.requires)),
        simp (length-take, length-replicate) (omega (arith, c.requires)),
        simp (length-take, length-replicate) (omega (arith, c.requires)),
        simp (length-take, length-replicate) (omega (arith, c.requires)),
        simp (length-take, length-replicate) (omega (arith, c.requires)),
        simp (length-take, length-replicate) (omega (arith, c.requires)),
      );
    }
