-- `composing::compose_in` meets its contract. Assumes nothing.
use Rattle.std.proofs.Common.{List, ap, arith, length, subst, sym, true, ℕ, ◌*◌, ◌+◌, ◌↔◌, ◌∙◌, ◌≡◌}
use Rattle.zmod.specs.Zmod.{Zmod}
use Rattle.zmod.specs.Residues.{Reduced, Residues, poly}
use Rattle.isogeny.specs.Rules.{N, R1, R3}
use Rattle.sheet.specs.declared.Values.{Values}
use Rattle.sheet.specs.Values.{half, question}
use Rattle.sheet.specs.Ready.{Ready, HoldsG, HoldsN, half_least, half_most}
use Rattle.promises.specs.Numerators.{numerator_words}
use Rattle.promises.specs.Answer.{composed}
use Rattle.certifying.specs.Certified.{Certified}
use Rattle.composing.proofs.Kernels.{both_ready, words_are, both_g, both_meets, third_rule, both_composed}
use Rattle.composing.proofs.compose_in.Goals as goal

-- ── the needs
pub new-u-requires : goal.new-u-requires
new-u-requires c =
    let a = c.args in
    subst Ready (sym c.composite_values.ensures) (both_ready a.v.values a.w.values a.g1.now a.n1.now a.g2.now c.requires.joined)

pub composite-requires : goal.composite-requires
composite-requires c =
    let a = c.args in
    let j = c.requires.joined in
    let ready = both_ready a.v.values a.w.values a.g1.now a.n1.now a.g2.now j in
    let values_are = c.new-u.ensures ∙ c.composite_values.ensures in
    let same_p : c.new-u.result.modulus.p ≡ a.v.values.p = c.new-u.result.over ∙ ap (λ v. v.p) values_are in
    let over_p : (xs : List ℕ) → Reduced a.v.values.p xs → Reduced c.new-u.result.modulus.p xs = λ xs. subst (λ p. Reduced p xs) (sym same_p) in record {
      p_bound = (
        omega (arith, same_p, ready.prime.least),
        over_p a.n1.now j.n₁_words.reduced,
        over_p a.g1.now j.g₁_words.reduced,
        over_p a.g2.now (subst (λ p. Reduced p a.g2.now) (sym j.meet.p) j.g₂_words.reduced),
      );
      in_bounds = (
        omega (arith, j.g₁_words.count, half_least a.v.values a.v.ready),
        omega (arith, j.g₂_words.count, half_least a.w.values a.w.ready),
        omega (arith, j.n₁_words.count, j.g₁_words.count),
        c.requires.g_len.0 ∙ words_are a.v.values a.w.values a.g1.now a.n1.now a.g2.now j,
        omega (arith, c.requires.g_len.0, half_most _ ready),
      );
    }

pub numerator-requires : goal.numerator-requires
numerator-requires c =
    let a = c.args in
    let joint = composed a.v.values a.w.values in
    let values_are : c.new-u.result.values ≡ joint = c.new-u.ensures ∙ c.composite_values.ensures in
    let same_p : c.new-u.result.modulus.p ≡ a.v.values.p = c.new-u.result.over ∙ ap (λ v. v.p) values_are in
    let g_count : length c.composite.new.out ≡ half joint + 1 = omega (arith, c.composite.auto, c.requires.g_len.0) in
    let g_words =
    both_g a.v.values a.w.values a.g1.now a.n1.now a.g2.now c.requires.joined c.new-u.result.modulus.p same_p c.composite.new.out g_count
    c.composite.ensures in
    record {
      holds_g = subst (λ (u : Values). HoldsG u c.composite.new.out) (sym values_are) g_words;
      out_len = subst (λ (u : Values). length a.n.now ≡ 2 * half u + 2) (sym values_are) c.requires.g_len.1;
    }

pub finish-requires : goal.finish-requires
finish-requires c =
    let a = c.args in
    let j = c.requires.joined in
    let joint = composed a.v.values a.w.values in
    let ready = both_ready a.v.values a.w.values a.g1.now a.n1.now a.g2.now j in
    let values_are : c.new-u.result.values ≡ joint = c.new-u.ensures ∙ c.composite_values.ensures in
    let same_p : c.new-u.result.modulus.p ≡ a.v.values.p = c.new-u.result.over ∙ ap (λ v. v.p) values_are in
    let g : List ℕ = c.composite.new.out in
    let n : List ℕ = c.numerator.new.out in
    let g_count : length g ≡ half joint + 1 = omega (arith, c.composite.auto, c.requires.g_len.0) in
    let n_count : length n ≡ 2 * half joint + 2 = omega (arith, c.numerator.auto, c.requires.g_len.1) in
    let g_words =
    both_g a.v.values a.w.values a.g1.now a.n1.now a.g2.now j c.new-u.result.modulus.p same_p g g_count c.composite.ensures in
    let n_is : Residues joint.p (N (Zmod joint.p) (question joint) (poly joint.p g)) n =
    subst (λ (u : Values). Residues u.p (N (Zmod u.p) (question u) (poly u.p g)) n) values_are c.numerator.ensures in
    let n_words = numerator_words joint ready g n g_words n_count n_is in
    let back = sym values_are in record {
      holds_g =
          subst (λ (u : Values). HoldsG u g × R1 (Zmod u.p) (question u) (poly u.p g)) back (
            g_words,
            (both_meets a.v.values a.w.values a.g1.now a.n1.now a.g2.now j c.new-u.result.modulus.p same_p g g_count
                c.composite.ensures).r1,
          );
      holds_n =
          subst (λ (u : Values). HoldsN u n × (poly u.p n ≡ N (Zmod u.p) (question u) (poly u.p g))) back n_words;
      variant =
          subst (λ (u : Values). (true ≡ true) ↔ R3 (Zmod u.p) (question u) (poly u.p g) (poly u.p n)) back
          (third_rule a.v.values a.w.values a.g1.now a.n1.now a.g2.now j c.new-u.result.modulus.p same_p g g_count
          c.composite.ensures n n_words.1);
      room = c.requires.g_len.2;
    }

pub returns : goal.returns
returns c =
    let a = c.args in
    let joint = composed a.v.values a.w.values in
    let values_are : c.new-u.result.values ≡ joint = c.new-u.ensures ∙ c.composite_values.ensures in
    let same_p : c.new-u.result.modulus.p ≡ a.v.values.p = c.new-u.result.over ∙ ap (λ v. v.p) values_are in
    let g : List ℕ = c.composite.new.out in
    let g_count : length g ≡ half joint + 1 = omega (arith, c.composite.auto, c.requires.g_len.0) in
    both_composed a.v.values a.w.values a.g1.now a.n1.now a.g2.now c.requires.joined c.new-u.result.modulus.p same_p g g_count
    c.composite.ensures a.answer.now _ c.finish.result
    (subst (λ (u : Values). Certified u g a.answer.now c.finish.new.answer c.finish.result) values_are c.finish.ensures)
