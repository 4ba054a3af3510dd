-- `barrett::product` meets its contract: a word is its own remainder by 2^32. Assumes nothing.
use Rattle.std.proofs.Common.{ap₂, arith, mod-eq_of_lt, ◌*◌}
use Rattle.zmod.specs.Remainder.{product_below}
use Rattle.barrett.proofs.product.Goals as goal

pub overflow_mul-result : goal.overflow_mul-result
overflow_mul-result c = record { fits = product_below 32 (omega arith) (omega arith) }

pub returns : goal.returns
returns c = ap₂ ◌*◌ (mod-eq_of_lt c.requires.0) (mod-eq_of_lt c.requires.1)
