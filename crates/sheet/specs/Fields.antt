-- Two values of a header are equal if each of their seven fields is.
-- Assumes nothing.
use Rattle.std.specs.Prelude.{◌≡◌, ℕ}
use Rattle.std.proofs.Common.{◌∙◌, ap, ap₂}
use Rattle.sheet.specs.declared.Values.{Values}

abbrev make : ℕ → ℕ → ℕ → ℕ → ℕ → ℕ → ℕ → Values
make p a b c d l s = record { p = p; a = a; b = b; atilde = c; btilde = d; degree = l; sigma = s }

pub same : {v w : Values} → v.p ≡ w.p → v.a ≡ w.a → v.b ≡ w.b → v.atilde ≡ w.atilde → v.btilde ≡ w.btilde → v.degree ≡ w.degree
    → v.sigma ≡ w.sigma → v ≡ w
same {v} {w} e1 e2 e3 e4 e5 e6 e7 =
    ap₂ (λ x y. make x y v.b v.atilde v.btilde v.degree v.sigma) e1 e2
    ∙ ap₂ (λ x y. make w.p w.a x y v.btilde v.degree v.sigma) e3 e4
    ∙ ap₂ (λ x y. make w.p w.a w.b w.atilde x y v.sigma) e5 e6
    ∙ ap (λ x. make w.p w.a w.b w.atilde w.btilde w.degree x) e7
