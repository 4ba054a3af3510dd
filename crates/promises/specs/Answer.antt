-- What each service has to answer: the first no among its questions, or the result that documents 01 and 02 name, with every word of the lent answer buffer.
-- Assumes nothing.
use Rattle.std.specs.Prelude.{◌≡◌, List, ◌++◌, ℕ, ◌+◌, ◌*◌, ◌%◌, ◌<◌, length, drop, Result}
use Rattle.zmod.specs.Zmod.{Zmod, mk}
use Rattle.zmod.specs.Residues.{poly}
use Rattle.isogeny.specs.Curve.{Nonsingular, JValue}
use Rattle.isogeny.specs.Rules as Rules
use Rattle.isogeny.specs.Rules.{N, Meets, g_at}
use Rattle.composition.specs.Composite.{composite_g}
use Rattle.questions.specs.Answers.{Answers, Writes}
use Rattle.questions.specs.Number.{outcome}
use Rattle.questions.specs.declared.refusal.Refusal.{Refusal}
use Rattle.sheet.specs.declared.Form.TheVariants.{Question, Certificate, Kernel}
use Rattle.sheet.specs.declared.Values.{Values}
use Rattle.sheet.specs.Form.{certificate_words}
use Rattle.sheet.specs.Values.{values_of, half, question, gOf, n_of}
use Rattle.sheet.specs.Ready.{HoldsG, HoldsN}
use Rattle.certificate.specs.Certificate.{certificate}
use Rattle.promises.specs.Abscissas.{rational_abscissas_of}
use Rattle.promises.specs.declared.Point.{Point}
use Rattle.promises.specs.declared.Point.TheVariants.{Affine, Infinity}
use Rattle.promises.specs.Asked.{check_asks, solve_asks, kernel_asks, compose_asks, push_asks, name_asks}

-- ── check: nothing is told of a certificate but that it passes

abbrev pub CheckRight : List ℕ → Result (Unit {0}) Refusal → Type 0
CheckRight ws r = Answers (check_asks ws) (λ _. Unit {0}) (outcome r)

-- ── a certificate in the answer buffer: the words of a g that meets the rules for the values v, with R2's N and the count of rational abscissas, and behind
-- them what stood there before; `count` is that of the words

pub record CertificateIn (v : Values) (before after : List ℕ) (count : ℕ) : Type 0 where
  pub g : List ℕ
  pub n : List ℕ
  pub g_words : HoldsG v g
  pub n_words : HoldsN v n
  pub meets : Meets (Zmod v.p) (question v) (poly v.p g)
  pub n_is : poly v.p n ≡ N (Zmod v.p) (question v) (poly v.p g)
  pub count_is : count ≡ certificate_words (half v)
  pub words : after ≡ certificate v g n (rational_abscissas_of v g) ++ drop count before

-- ── solve: the certificate for the question's values

abbrev pub SolveRight : List ℕ → List ℕ → List ℕ → Result ℕ Refusal → Type 0
SolveRight ws before after r =
    Writes (solve_asks ws (length before)) (λ count after. CertificateIn (values_of Question ws) before after count) before after (outcome r)

-- ── kernel: the certificate of the sheet's g, with a codomain and the σ of R1

-- the values with a codomain and a σ
abbrev pub with : Values → ℕ → ℕ → ℕ → Values
with v ã b̃ σ = record {
  p = v.p;
  a = v.a;
  b = v.b;
  atilde = ã;
  btilde = b̃;
  degree = v.degree;
  sigma = σ;
}

pub record KernelIn (v : Values) (g before after : List ℕ) (count : ℕ) : Type 0 where
  pub ã : ℕ
  pub b̃ : ℕ
  pub σ : ℕ
  pub ã-below : ã < v.p
  pub b̃-below : b̃ < v.p
  pub σ_below : σ < v.p
  pub nonsingular : Nonsingular (Zmod v.p) (mk v.p ã) (mk v.p b̃)
  pub certificate : CertificateIn (with v ã b̃ σ) before after count
  pub same_g : certificate.g ≡ g

abbrev pub KernelRight : List ℕ → List ℕ → List ℕ → Result ℕ Refusal → Type 0
KernelRight ws before after r =
    Writes (kernel_asks ws (length before)) (λ count after. KernelIn (values_of Kernel ws) (gOf Kernel ws) before after count) before after
    (outcome r)

-- ── compose: the certificate of the composite of two maps

-- from the first domain to the second codomain, with the degree ℓ₁ℓ₂ and the kernel sum σ₂ + ℓ₂σ₁
abbrev pub composed : Values → Values → Values
composed v w = record {
  p = v.p;
  a = v.a;
  b = v.b;
  atilde = w.atilde;
  btilde = w.btilde;
  degree = v.degree * w.degree;
  sigma = (w.sigma + w.degree * v.sigma) % v.p;
}

-- with the kernel polynomial of the composite
pub record ComposeIn (v w : Values) (g₁ g₂ before after : List ℕ) (count : ℕ) : Type 0 where
  pub certificate : CertificateIn (composed v w) before after count
  pub g_is : poly v.p certificate.g ≡ composite_g (Zmod v.p) (question v) (half w) (poly v.p g₁) (poly v.p g₂)

abbrev pub ComposeRight : List ℕ → List ℕ → List ℕ → List ℕ → Result ℕ Refusal → Type 0
ComposeRight first second before after r =
    Writes (compose_asks first second (length before))
    (λ count after.
    ComposeIn (values_of Certificate first) (values_of Certificate second) (gOf Certificate first) (gOf Certificate second) before after count)
    before after (outcome r)

-- ── push: an affine point with g not 0 goes where `Rules.Image` says; the others go to infinity

pub record ToPoint (v : Values) (g n : List ℕ) (x y u w : ℕ) : Type 0 where
  pub u_below : u < v.p
  pub w_below : w < v.p
  pub image : Rules.Image (Zmod v.p) (question v) (poly v.p g) (poly v.p n) (mk v.p x) (mk v.p y) (mk v.p u) (mk v.p w)

abbrev pub Goes : Values → List ℕ → List ℕ → Point → Point → Type 0
Goes v g n (Affine x y) (Affine u w) = ToPoint v g n x y u w
Goes v g n (Affine x y) Infinity = g_at (Zmod v.p) (question v) (poly v.p g) (mk v.p x) ≡ mk v.p 0
Goes v g n Infinity (Affine u w) = ⊥
Goes v g n Infinity Infinity = Unit {0}

abbrev pub PushRight : List ℕ → Point → Result Point Refusal → Type 0
PushRight ws at r = Answers (push_asks ws at) (Goes (values_of Certificate ws) (gOf Certificate ws) (n_of Certificate ws) at) (outcome r)

-- ── name: the j-value, below p

abbrev pub NameRight : ℕ → ℕ → ℕ → Result ℕ Refusal → Type 0
NameRight p a b r = Answers (name_asks p a b) (λ j. (j < p) × JValue (Zmod p) (mk p a) (mk p b) (mk p j)) (outcome r)
