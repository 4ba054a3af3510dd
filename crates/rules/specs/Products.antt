-- What three slices hold that the parts of N are computed from: g², −2gg' and −4(gg'' − g'²), each whole.
-- Assumes nothing.
use Rattle.std.specs.Prelude.{List, ℕ}
use Rattle.series.specs.Series.{Seq, conv}
use Rattle.zmod.specs.Zmod.{Zmod}
use Rattle.rules.specs.Numerator.{minus_slope, minus_bend}
use Rattle.rules.specs.Words.{Whole}

pub record Products (p : ℕ) (g : Seq (Zmod p)) (square slope bend : List ℕ) : Type 0 where
  pub square_is : Whole p (conv (Zmod p) g g) square
  pub slope_is : Whole p (minus_slope (Zmod p) g) slope
  pub bend_is : Whole p (minus_bend (Zmod p) g) bend
