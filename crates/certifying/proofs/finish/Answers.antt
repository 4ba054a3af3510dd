-- `certifying::finish` meets its contract.
-- Assumes nothing.
use Rattle.std.proofs.Common.{not, ap, arith, drop, refl, ◌++◌, ◌∙◌}
use Rattle.certificate.specs.Certificate.{certificate}
use Rattle.promises.specs.Abscissas.{abscissas_fit}
use Rattle.promises.specs.Countable.{roots_ask, counted_on_sheet}
use Rattle.certifying.proofs.Rules.{refused, meets}
use Rattle.certifying.proofs.finish.Goals as goal

pub returns-then-not-holds : goal.returns-then-not-holds
returns-then-not-holds c =
    let a = c.args in
    record {
      number = refl;
      unmet = refused a.v.values a.g.now a.n.now a.holds c.requires.holds_n.1 c.requires.variant (ap not c.if-not-holds.true);
      kept = refl;
    }

pub roots-abscissas-requires : goal.roots-abscissas-requires
roots-abscissas-requires c =
    let a = c.args in
    roots_ask a.v.values a.v.ready a.g.now c.requires.holds_g.0 c.requires.holds_g.1 a.v.modulus (record { same = a.v.over })

pub write-words-requires : goal.write-words-requires
write-words-requires c =
    let a = c.args in
    let found = c.roots-abscissas in
    let count =
    counted_on_sheet a.v.values a.v.ready a.g.now c.requires.holds_g.0 c.requires.holds_g.1 a.v.modulus (record { same = a.v.over })
    found.result found.ensures in
    let fit = abscissas_fit a.v.values a.v.ready a.g.now c.requires.holds_g.0 c.requires.holds_g.1 in
    record {
      ready = a.v.ready;
      g_words = c.requires.holds_g.0;
      n_words = c.requires.holds_n.0;
      c_fits = omega (arith, count, fit);
      enough = omega (arith, a.v.ready.degree, c.requires.room);
    }

pub overflow_cast-count : goal.overflow_cast-count
overflow_cast-count c =
    omega (arith, c.write-words.ensures.count, c.args.v.ready.degree)

pub returns : goal.returns
returns c =
    let a = c.args in
    let found = c.roots-abscissas in
    let count =
    counted_on_sheet a.v.values a.v.ready a.g.now c.requires.holds_g.0 c.requires.holds_g.1 a.v.modulus (record { same = a.v.over })
    found.result found.ensures in
    record {
      certificate = record {
        g = a.g.now;
        n = a.n.now;
        g_words = c.requires.holds_g.0;
        n_words = c.requires.holds_n.0;
        meets = meets a.v.values a.g.now a.n.now a.holds c.requires.holds_n.1 c.requires.variant c.requires.holds_g.1 (ap not c.if-not-holds.false);
        n_is = c.requires.holds_n.1;
        count_is = c.write-words.ensures.count;
        words =
            c.write-words.ensures.words
            ∙ ap (λ k. certificate a.v.values a.g.now a.n.now k ++ drop c.write-words.result a.answer.now) count;
      };
      same_g = refl;
    }
