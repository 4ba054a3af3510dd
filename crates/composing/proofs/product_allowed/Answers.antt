-- `composing::product_allowed` meets its contract. Assumes nothing.
use Rattle.std.proofs.Common.{arith, lt-ltb, ltb-true}
use Rattle.questions.specs.Tests.{says_no}
use Rattle.composing.proofs.Kernels.{product_most, product_some}
use Rattle.composing.proofs.product_allowed.Goals as goal

pub overflow_mul-l : goal.overflow_mul-l
overflow_mul-l c =
    omega (arith, product_most c.args.v.values c.args.w.values c.args.v.ready c.args.w.ready)

pub returns-then-l-gt255 : goal.returns-then-l-gt255
returns-then-l-gt255 c = says_no (λ h. omega (arith, h.most, c.if-l-gt255.true))

pub overflow_sub-result : goal.overflow_sub-result
overflow_sub-result c =
    omega (arith, product_some c.args.v.values c.args.w.values c.args.v.ready c.args.w.ready)

pub returns : goal.returns
returns c = (λ e. record { most = omega (arith, c.if-l-gt255.false); small = ltb-true _ _ e }, λ h. lt-ltb _ _ h.small)
