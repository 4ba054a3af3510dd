-- What a customer can cite of kernel: one answer is right and no other, with every word of the lent buffer, since the sheet determines codomain, σ and N;
-- and what it writes passes check.
-- Assumes nothing.
use Rattle.std.specs.Prelude.{◌≡◌, List, ℕ, length, take, Result, Ok}
use Rattle.std.proofs.Common.{sym, ◌∙◌, subst}
use Rattle.series.specs.Series.{Seq}
use Rattle.zmod.specs.Zmod.{Zmod, mk, mk_apart}
use Rattle.zmod.specs.Prime.{prime_pos}
use Rattle.zmod.specs.Residues.{poly}
use Rattle.isogeny.specs.Rules.{Meets}
use Rattle.isogeny.specs.Expansion.{power_sums_of}
use Rattle.isogeny.specs.Kernel.{codomain_A, codomain_B}
use Rattle.isogeny.proofs.Theorems as T
use Rattle.questions.specs.Questions.{AllYes}
use Rattle.questions.specs.Joined.{all_front}
use Rattle.questions.specs.Numbered.{yes_to}
use Rattle.questions.specs.Answers.{writes_unique}
use Rattle.sheet.specs.declared.Form.TheVariants.{Kernel}
use Rattle.sheet.specs.declared.Values.{Values}
use Rattle.sheet.specs.Values.{gOf, values_of, question, half}
use Rattle.sheet.specs.Asked.{Curves, asked}
use Rattle.sheet.specs.Ready.{Ready, ready, half_least}
use Rattle.questions.specs.Number.{outcome, same_outcome}
use Rattle.questions.specs.declared.refusal.Refusal.{Refusal}
use Rattle.promises.specs.Asked.{check_asks, last_ask, kernel_asks}
use Rattle.promises.specs.Answer.{CertificateIn, with, KernelIn, KernelRight}
use Rattle.guarantees.specs.Certified.{certified, one_certificate}

-- the questions before 8
pub kernel_asked : (ws : List ℕ) (room : ℕ) → AllYes (kernel_asks ws room) → AllYes (asked Kernel ws)
kernel_asked ws room all = all_front (asked Kernel ws) (last_ask (values_of Kernel ws) (gOf Kernel ws)) all.1

-- ── codomain and σ are determined by the values and g

module _ (v : Values) (known : Ready v) (g before : List ℕ) where
  abbrev G : Seq (Zmod v.p)
  G = poly v.p g

  pub ready_with : {after : List ℕ} {count : ℕ} (k : KernelIn v g before after count) → Ready (with v k.ã k.b̃ k.σ)
  ready_with k = record {
    prime = known.prime;
    degree = known.degree;
    below = record { a = known.below.a; b = known.below.b; atilde = k.ã-below; btilde = k.b̃-below; sigma = k.σ_below };
  }

  module _ {after : List ℕ} {count : ℕ} (k : KernelIn v g before after count) where
    pub kernel_meets : Meets (Zmod v.p) (question (with v k.ã k.b̃ k.σ)) (poly v.p g)
    kernel_meets = subst (λ g. Meets (Zmod v.p) (question (with v k.ã k.b̃ k.σ)) (poly v.p g)) k.same_g k.certificate.meets

    pub kernel_codomain : (mk v.p k.ã ≡ codomain_A (Zmod v.p) (question v).A (question v).B (power_sums_of (Zmod v.p) (half v) (poly v.p g)))
        × (mk v.p k.b̃ ≡ codomain_B (Zmod v.p) (question v).A (question v).B (power_sums_of (Zmod v.p) (half v) (poly v.p g)))
    kernel_codomain =
        T.codomain known.prime.prime (question (with v k.ã k.b̃ k.σ)) (half_least v known) (poly v.p g) kernel_meets.r1 kernel_meets.r3
        (power_sums_of (Zmod v.p) (half v) (poly v.p g)) (T.power_sums_exist known.prime.prime (half v) (poly v.p g) kernel_meets.r1.leading 3)

  pub one_kernel : {after after' : List ℕ} {count count' : ℕ} → KernelIn v g before after count → KernelIn v g before after' count'
      → (count ≡ count') × (after ≡ after')
  one_kernel {after} {after'} {count} {count'} k k' =
      let pos = prime_pos known.prime.prime in
      let a : k'.ã ≡ k.ã = mk_apart pos k'.ã k.ã k'.ã-below k.ã-below ((kernel_codomain k').0 ∙ sym (kernel_codomain k).0) in
      let b : k'.b̃ ≡ k.b̃ = mk_apart pos k'.b̃ k.b̃ k'.b̃-below k.b̃-below ((kernel_codomain k').1 ∙ sym (kernel_codomain k).1) in
      let s : k'.σ ≡ k.σ = mk_apart pos k'.σ k.σ k'.σ_below k.σ_below ((kernel_meets k').r1.sigma ∙ sym (kernel_meets k).r1.sigma) in
      one_certificate (with v k.ã k.b̃ k.σ) (ready_with k) before after after' count count' k.certificate
      (subst (λ x. CertificateIn (with v x k.b̃ k.σ) before after' count') a
      (subst (λ x. CertificateIn (with v k'.ã x k.σ) before after' count') b
      (subst (λ x. CertificateIn (with v k'.ã k'.b̃ x) before after' count') s k'.certificate)))

-- One answer is right at most, with one content of the lent buffer.
pub kernel_unique : (ws before after after' : List ℕ) (r r' : Result ℕ Refusal) → KernelRight ws before after r → KernelRight ws before after' r'
    → (r ≡ r') × (after ≡ after')
kernel_unique ws before after after' r r' h k =
    let same =
    writes_unique (kernel_asks ws (length before)) (λ count after. KernelIn (values_of Kernel ws) (gOf Kernel ws) before after count) before
    (λ all c c' xs ys a b. one_kernel (values_of Kernel ws) (ready Kernel ws (kernel_asked ws (length before) all)) (gOf Kernel ws) before a b)
    (outcome r) (outcome r') after after' h k in
    (same_outcome r r' same.0, same.1)

-- What kernel writes passes check.
pub kernel_certified : (ws before after : List ℕ) (c : ℕ) → KernelRight ws before after (Ok c) → AllYes (check_asks (take c after))
kernel_certified ws before after c (all, it) =
    let first : AllYes (asked Kernel ws) = kernel_asked ws (length before) all in
    let curves : Curves Kernel (values_of Kernel ws) = yes_to (asked Kernel ws) 7 first in
    certified (with (values_of Kernel ws) it.ã it.b̃ it.σ) (ready_with (values_of Kernel ws) (ready Kernel ws first) (gOf Kernel ws) before it)
    (record { domain = curves.domain; codomain = λ _. it.nonsingular }) before after c it.certificate
