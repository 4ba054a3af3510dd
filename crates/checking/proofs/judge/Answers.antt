-- `checking::judge` meets its contract. Assumes nothing.
use Rattle.std.proofs.Common.{arith, length, subst}
use Rattle.questions.specs.Answers.{Answers}
use Rattle.questions.specs.Number.{outcome}
use Rattle.checking.proofs.Coefficients.{long, g_words, g_holds, n_words, n_holds, abscissas_read, rules_read}
use Rattle.checking.proofs.judge.Goals as goal

-- ── the needs
pub g_coefficients-requires : goal.g_coefficients-requires
g_coefficients-requires c =
    let a = c.args in
    let r = a.v.ready in
    let l = long a.ws.now c.requires.all_yes a.v.values a.d c.requires.v_value.0 c.requires.v_value.1 in
    (omega (arith, r.prime.least), omega (arith, r.degree, c.requires.v_value.1), omega (arith, l, c.requires.g_len.0))

pub n_coefficients-requires : goal.n_coefficients-requires
n_coefficients-requires c =
    let a = c.args in
    let r = a.v.ready in
    let l = long a.ws.now c.requires.all_yes a.v.values a.d c.requires.v_value.0 c.requires.v_value.1 in
    (omega (arith, r.prime.least), omega (arith, r.degree, c.requires.v_value.1), omega (arith, l, c.requires.g_len.1))

pub rational_abscissas-abscissas-requires : goal.rational_abscissas-abscissas-requires
rational_abscissas-abscissas-requires c =
    let a = c.args in
    let r = a.v.ready in
    (omega (arith, r.degree, c.requires.v_value.1), long a.ws.now c.requires.all_yes a.v.values a.d c.requires.v_value.0 c.requires.v_value.1)

pub ask_rules-requires : goal.ask_rules-requires
ask_rules-requires c =
    let a = c.args in
    let yes = c.requires.all_yes in
    let v_is = c.requires.v_value in
    record {
      holds_g = g_holds a.ws.now yes a.v.values a.d v_is.0 v_is.1 c.g_coefficients.new.out (length a.g.now) c.requires.g_len.0 c.g_coefficients.ensures;
      holds_n = n_holds a.ws.now yes a.v.values a.d v_is.0 v_is.1 c.n_coefficients.new.out (length a.n.now) c.requires.g_len.1 c.n_coefficients.ensures;
    }

pub returns : goal.returns
returns c =
    let a = c.args in
    let ws = a.ws.now in
    let yes = c.requires.all_yes in
    let v_is = c.requires.v_value in
    let g = c.g_coefficients.new.out in
    let n = c.n_coefficients.new.out in
    let g_is = g_words ws yes a.v.values a.d v_is.0 v_is.1 g (length a.g.now) c.requires.g_len.0 c.g_coefficients.ensures in
    let n_is = n_words ws yes a.v.values a.d v_is.0 v_is.1 n (length a.n.now) c.requires.g_len.1 c.n_coefficients.ensures in
    let abscissas = c.rational_abscissas-abscissas in
    let count_is = abscissas_read ws yes a.v.values a.d v_is.0 v_is.1 abscissas.result abscissas.ensures.0 in
    record {
      g_is = g_is;
      n_is = n_is;
      judged = subst (λ asks. Answers asks (λ _. Unit {0}) (outcome c.ask_rules.result))
          (rules_read ws a.v.values v_is.0 g n abscissas.result g_is n_is count_is) c.ask_rules.ensures;
    }
