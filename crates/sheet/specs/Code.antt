-- The numbers of the kinds.
-- Assumes nothing.
use Rattle.std.specs.Prelude.{ℕ, ◌<◌}
use Rattle.std.proofs.Common.{arith}
use Rattle.sheet.specs.declared.Kind.{Kind}
use Rattle.sheet.specs.declared.Kind.TheVariants.{
  P,
  A,
  B,
  Atilde,
  Btilde,
  Degree,
  Sigma,
  G,
  N,
  Abscissas,
  End,
  Unused0,
  Unused11,
  Unused12,
  Unused13,
  Unused14,
}

abbrev pub code : Kind → ℕ
code P = 1
code A = 2
code B = 3
code Atilde = 4
code Btilde = 5
code Degree = 6
code Sigma = 7
code G = 8
code N = 9
code Abscissas = 10
code End = 15
code Unused0 = 0
code Unused11 = 11
code Unused12 = 12
code Unused13 = 13
code Unused14 = 14

-- a word's top four bits hold each
pub code_fits : (kind : Kind) → code kind < 16
code_fits P = omega arith
code_fits A = omega arith
code_fits B = omega arith
code_fits Atilde = omega arith
code_fits Btilde = omega arith
code_fits Degree = omega arith
code_fits Sigma = omega arith
code_fits G = omega arith
code_fits N = omega arith
code_fits Abscissas = omega arith
code_fits End = omega arith
code_fits Unused0 = omega arith
code_fits Unused11 = omega arith
code_fits Unused12 = omega arith
code_fits Unused13 = omega arith
code_fits Unused14 = omega arith
