-- `velu::kernel_in` meets its contract. Assumes nothing.
use Rattle.std.proofs.Common.{arith, length}
use Rattle.velu.proofs.Sheets.{long, g_words, kernel_right}
use Rattle.velu.proofs.kernel_in.Goals as goal

pub g_coefficients-requires : goal.g_coefficients-requires
g_coefficients-requires c =
    let a = c.args in
    let r = a.v.ready in
    let l = long a.ws.now c.requires.all_yes.0 a.v.values c.requires.all_yes.1 in
    (omega (arith, r.prime.least), omega (arith, r.degree, c.requires.g_len.0), omega (arith, l, c.requires.g_len.0))

pub finish-requires : goal.finish-requires
finish-requires c =
    let g-read =
    c.g_coefficients.new.out
    in
    let a = c.args in record {
      holds_g =
          g_words a.ws.now c.requires.all_yes.0 a.v.values c.requires.all_yes.1 (g-read) (length a.g.now) c.requires.g_len.0
          c.g_coefficients.ensures;
      room = c.requires.g_len.1;
    }

pub returns : goal.returns
returns c =
    let g-read =
    c.g_coefficients.new.out
    in
    let a = c.args in
    kernel_right a.ws.now c.requires.all_yes.0 a.v.values c.requires.all_yes.1 (g-read) (length a.g.now) c.requires.g_len.0
    c.g_coefficients.ensures a.answer.now c.finish.new.answer c.requires.g_len.1 c.finish.result c.finish.ensures
