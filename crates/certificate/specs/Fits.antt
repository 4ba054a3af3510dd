-- Values that are ready, and residues, are values of words.
-- Assumes nothing.
use Rattle.std.specs.Prelude.{List, ℕ, ◌^◌, ◌<◌}
use Rattle.std.proofs.Common.{arith}
use Rattle.zmod.specs.Residues.{Reduced}
use Rattle.sheet.specs.declared.Values.{Values}
use Rattle.sheet.specs.Ready.{Ready, HoldsG, HoldsN}

pub record ValuesFit (v : Values) : Type 0 where
  pub p : v.p < 2 ^ 28
  pub a : v.a < 2 ^ 28
  pub b : v.b < 2 ^ 28
  pub atilde : v.atilde < 2 ^ 28
  pub btilde : v.btilde < 2 ^ 28
  pub degree : v.degree < 2 ^ 28
  pub sigma : v.sigma < 2 ^ 28

module _ (v : Values) (ready : Ready v) where
  pub values_fit : ValuesFit v
  values_fit =
      record { p = ready.prime.most; a = omega arith; b = omega arith; atilde = omega arith; btilde = omega arith; degree = omega arith; sigma = omega arith }

  pub g_fit : (g : List ℕ) → HoldsG v g → Reduced (2 ^ 28) g
  g_fit g h i = omega (arith, h.reduced i)

  pub n_fit : (n : List ℕ) → HoldsN v n → Reduced (2 ^ 28) n
  n_fit n h i = omega (arith, h.reduced i)
