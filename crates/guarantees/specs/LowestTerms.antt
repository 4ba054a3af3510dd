-- What is on a certificate's words, over ℤ/p, the field of the sheet's p. (What holds of it where check lets the words pass: `proofs/LowestTerms`.)
-- Assumes nothing.
use Rattle.std.specs.Prelude.{List, ℕ}
use Rattle.ring.specs.Ring.{CRing, pow}
use Rattle.series.specs.Series.{Series, Seq}
use Rattle.zmod.specs.Zmod.{Zmod}
use Rattle.isogeny.specs.Rules as Rules
use Rattle.isogeny.specs.Rules.{Question}
use Rattle.sheet.specs.declared.Form.TheVariants.{Certificate}
use Rattle.sheet.specs.Values.{values_of}
use Rattle.promises.specs.Asked as Asked
use Rattle.promises.specs.Asked.{prime, put}

module _ (ws : List ℕ) where
  abbrev pub p : ℕ
  p = prime Certificate ws

  abbrev pub R : CRing
  R = Zmod p

  -- the degree on the sheet
  abbrev pub ℓ : ℕ
  ℓ = (values_of Certificate ws).degree

  abbrev pub q : Question R
  q = put Certificate ws

  -- x³ + Ax + B
  abbrev pub f : Seq R
  f = Rules.f R q

  abbrev pub g : Seq R
  g = Asked.g Certificate ws

  abbrev pub N : Seq R
  N = Asked.n Certificate ws

  abbrev pub g² : Seq R
  g² = pow (Series R) g 2
