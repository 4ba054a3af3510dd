-- What a sheet says: its values, the question that they put over ℤ/p, the coefficients of g and N, and the count of rational abscissas. All but p, ℓ and
-- the count are read by the form (`value_in`).
-- Assumes nothing.
use Rattle.std.specs.Prelude.{List, map, ℕ, ◌+◌, ◌*◌, ◌-◌, ◌/◌, length, get_or, take, drop}
use Rattle.zmod.specs.Zmod.{Zmod, mk}
use Rattle.isogeny.specs.Rules.{Question}
use Rattle.sheet.specs.declared.Form.{Form}
use Rattle.sheet.specs.declared.Form.TheVariants.{Certificate}
use Rattle.sheet.specs.declared.Values.{Values}
use Rattle.sheet.specs.Word.{value_of}
use Rattle.sheet.specs.Form.{header, entry, value_in}
use Rattle.sheet.specs.Place.{place_of}

-- the value of a kind in the header, those of p and ℓ apart
abbrev pub value_at : Form → ℕ → List ℕ → ℕ
value_at form k ws = value_in form (entry form 1 ws) (entry form k ws)

-- the values in the header, 0 where the form has no such word
abbrev pub values_of : Form → List ℕ → Values
values_of form ws = record {
  p = entry form 1 ws;
  a = value_at form 2 ws;
  b = value_at form 3 ws;
  atilde = value_at form 4 ws;
  btilde = value_at form 5 ws;
  degree = entry form 6 ws;
  sigma = value_at form 7 ws;
}

-- d = (ℓ − 1)/2
abbrev pub half : Values → ℕ
half v = (v.degree - 1) / 2

-- what the rules are asked of
abbrev pub question : (v : Values) → Question (Zmod v.p)
question v = record {
  A = mk v.p v.a;
  B = mk v.p v.b;
  Ã = mk v.p v.atilde;
  B̃ = mk v.p v.btilde;
  d = half v;
  σ = mk v.p v.sigma;
}

-- the value of a word with a coefficient, on a sheet over p
abbrev pub coefficient_in : Form → ℕ → ℕ → ℕ
coefficient_in form p w = value_in form p (value_of w)

-- the values of the coefficients of g, and of N
abbrev pub gOf : Form → List ℕ → List ℕ
gOf form ws = map (coefficient_in form (values_of form ws).p) (take (half (values_of form ws) + 1) (drop (length (header form)) ws))

abbrev pub n_of : Form → List ℕ → List ℕ
n_of form ws =
    map (coefficient_in form (values_of form ws).p) (take (2 * half (values_of form ws) + 2) (drop (length (header form) + (half (values_of form ws) + 1)) ws))

-- the count of rational abscissas on a certificate
abbrev pub abscissas_of : List ℕ → ℕ
abscissas_of ws = value_of (get_or ws (place_of Certificate 10 (half (values_of Certificate ws)) 0) 0)
