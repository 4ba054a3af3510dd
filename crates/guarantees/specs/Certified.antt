-- What stands in the answer buffer is a certificate, its words pass check; and for the same values there is one.
-- Assumes nothing.
use Rattle.std.specs.Prelude.{◌≡◌, refl, List, ◌++◌, ℕ, ◌^◌, ◌<◌, length, take, drop}
use Rattle.std.proofs.Common.{sym, ◌∙◌, ap, ap₂, subst, arith, take_at}
use Rattle.zmod.specs.Zmod.{Zmod}
use Rattle.zmod.specs.Residues.{poly, residues_self, residues_same, residues_unique}
use Rattle.isogeny.specs.Rules.{N, R3}
use Rattle.isogeny.proofs.Theorems.{unique}
use Rattle.questions.specs.Questions.{AllYes}
use Rattle.questions.specs.Joined.{all_all}
use Rattle.sheet.specs.declared.Form.TheVariants.{Certificate}
use Rattle.sheet.specs.declared.Values.{Values}
use Rattle.sheet.specs.Values.{values_of, gOf, n_of, abscissas_of, question}
use Rattle.sheet.specs.Asked.{Curves, asked}
use Rattle.sheet.specs.Ready.{Ready, HoldsG, HoldsN, half_least, degree_half}
use Rattle.certificate.specs.Certificate.{certificate}
use Rattle.certificate.specs.RoundTrip.{values_back, g_back, n_back, abscissas_back, count_back, all_back}
use Rattle.promises.specs.Abscissas.{rational_abscissas_of, abscissas_fit}
use Rattle.promises.specs.Asked.{check_asks, rules_ask, certificate_rules}
use Rattle.promises.specs.Answer.{CertificateIn}

-- ── it passes check

module _ (v : Values) (ready : Ready v) (curves : Curves Certificate v) (before after : List ℕ) (count : ℕ) (held : CertificateIn v before after count) where
  abbrev g : List ℕ
  g = held.g

  abbrev n : List ℕ
  n = held.n

  abbrev ws : List ℕ
  ws = certificate v held.g held.n (rational_abscissas_of v held.g)

  abbrev c : ℕ
  c = rational_abscissas_of v held.g

  c_fits : c < 2 ^ 28
  c_fits = abscissas_fit v ready g held.g_words held.meets.r1

  -- questions 8 to 10
  rules : AllYes (rules_ask v g n c)
  rules = (held.meets.r1, ((held.n_is, refl), (subst (R3 (Zmod v.p) (question v) (poly v.p g)) (sym held.n_is) held.meets.r3, tt)))

  rules_back : AllYes (certificate_rules ws)
  rules_back =
      subst (λ v. AllYes (rules_ask v (gOf Certificate ws) (n_of Certificate ws) (abscissas_of ws))) (sym (values_back v ready g n c))
      (subst (λ g. AllYes (rules_ask v g (n_of Certificate ws) (abscissas_of ws))) (sym (g_back v ready g n c held.g_words held.n_words c_fits))
      (subst (λ n. AllYes (rules_ask v g n (abscissas_of ws))) (sym (n_back v ready g n c held.g_words held.n_words c_fits))
      (subst (λ c. AllYes (rules_ask v g n c)) (sym (abscissas_back v ready g n c held.g_words held.n_words c_fits)) rules)))

  pub certificate_words_lem : take count after ≡ ws
  certificate_words_lem =
      ap (take count) held.words
      ∙ take_at ws (drop count before) count (count_back v ready g n c held.g_words held.n_words c_fits ∙ sym held.count_is)

  -- the count and the buffer, from the words that were written
  pub written_count : count ≡ length (take count after)
  written_count = held.count_is ∙ sym (count_back v ready g n c held.g_words held.n_words c_fits) ∙ ap length (sym certificate_words_lem)

  pub written_buffer : after ≡ take count after ++ drop count before
  written_buffer = held.words ∙ ap (λ (ws : List ℕ). ws ++ drop count before) (sym certificate_words_lem)

  -- what is on it
  pub written_values : values_of Certificate (take count after) ≡ v
  written_values = ap (values_of Certificate) certificate_words_lem ∙ values_back v ready g n c

  pub written_g : gOf Certificate (take count after) ≡ held.g
  written_g = ap (gOf Certificate) certificate_words_lem ∙ g_back v ready g n c held.g_words held.n_words c_fits

  pub written_n : n_of Certificate (take count after) ≡ held.n
  written_n = ap (n_of Certificate) certificate_words_lem ∙ n_back v ready g n c held.g_words held.n_words c_fits

  pub certified : AllYes (check_asks (take count after))
  certified =
      subst (λ ws. AllYes (check_asks ws)) (sym certificate_words_lem)
      (all_all (asked Certificate ws) (certificate_rules ws)
      (all_back v ready g n c held.g_words held.n_words c_fits curves) rules_back)

-- ── there is one

module _ (v : Values) (g g' : List ℕ) where
  same_words : HoldsG v g → HoldsG v g' → poly v.p g ≡ poly v.p g' → g ≡ g'
  same_words h k e =
      residues_unique (h.count ∙ sym k.count) (residues_same e (residues_self h.reduced)) (residues_self k.reduced)

module _ (v : Values) (n n' : List ℕ) where
  same_n_words : HoldsN v n → HoldsN v n' → poly v.p n ≡ poly v.p n' → n ≡ n'
  same_n_words h k e =
      residues_unique (h.count ∙ sym k.count) (residues_same e (residues_self h.reduced)) (residues_self k.reduced)

module _ (v : Values) (ready : Ready v) (before after after' : List ℕ) (c c' : ℕ) (h : CertificateIn v before after c)
    (k : CertificateIn v before after' c') where
  same_poly : poly v.p h.g ≡ poly v.p k.g
  same_poly =
      unique ready.prime.prime (question v) (half_least v ready) (omega (arith, ready.degree, degree_half v ready)) (poly v.p h.g)
      (poly v.p k.g)
      h.meets k.meets

  pub one_g : h.g ≡ k.g
  one_g = same_words v h.g k.g h.g_words k.g_words same_poly

  one_n : h.n ≡ k.n
  one_n =
      same_n_words v h.n k.n h.n_words k.n_words (h.n_is ∙ ap (N (Zmod v.p) (question v)) same_poly ∙ sym k.n_is)

  one_count : c ≡ c'
  one_count = h.count_is ∙ sym k.count_is

  pub one_certificate : (c ≡ c') × (after ≡ after')
  one_certificate = (
    one_count,
    h.words ∙ ap (λ m. certificate v h.g h.n (rational_abscissas_of v h.g) ++ drop m before) one_count
        ∙ ap₂ (λ g n. certificate v g n (rational_abscissas_of v g) ++ drop c' before) one_g one_n ∙ sym k.words,
  )
