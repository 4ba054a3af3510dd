-- The words of a certificate: the values of the header by their kinds, the coefficients of g and of N with the constant terms first, the count of rational
-- abscissas, and the end.
-- Assumes nothing.
use Rattle.std.specs.Prelude.{◌≡◌, List, [], ◌∷◌, ◌++◌, map, ℕ, ◌-◌, ◌^◌, ◌≤◌, ◌<◌, get_or, drop}
use Rattle.sheet.specs.declared.Values.{Values}
use Rattle.sheet.specs.Word.{word}
use Rattle.sheet.specs.Form.{certificate_words}
use Rattle.sheet.specs.Values.{half}
use Rattle.sheet.specs.Ready.{Ready, HoldsG, HoldsN}

-- the header
abbrev pub header_words : Values → List ℕ
header_words v = word 1 v.p ∷ word 2 v.a ∷ word 3 v.b ∷ word 4 v.atilde ∷ word 5 v.btilde ∷ word 6 v.degree ∷ word 7 v.sigma ∷ []

-- of the values v, the coefficients of g and N, and the count c
abbrev pub certificate : Values → List ℕ → List ℕ → ℕ → List ℕ
certificate v g n c = header_words v ++ map (word 8) g ++ map (word 9) n ++ word 10 c ∷ word 15 0 ∷ []

-- the value of kind k, from 1 to 7
abbrev pub value_at : Values → ℕ → ℕ
value_at v k = get_or (v.p ∷ v.a ∷ v.b ∷ v.atilde ∷ v.btilde ∷ v.degree ∷ v.sigma ∷ []) (k - 1) 0

-- ── what the writer needs and leaves

pub record Writable (v : Values) (g n : List ℕ) (c room : ℕ) : Type 0 where
  pub ready : Ready v
  pub g_words : HoldsG v g
  pub n_words : HoldsN v n
  pub c_fits : c < 2 ^ 28
  pub enough : certificate_words (half v) ≤ room

pub record Stored (v : Values) (g n : List ℕ) (c : ℕ) (before after : List ℕ) (r : ℕ) : Type 0 where
  pub count : r ≡ certificate_words (half v)
  pub words : after ≡ certificate v g n c ++ drop r before
