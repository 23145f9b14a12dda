-- `field::base::with_product` meets its contract: each of its two adders is exact. Assumes nothing.
use Rattle.std.proofs.Common.{rules}
use Rattle.field.proofs.Words.{takes_carry, takes_one, carried}
use Rattle.field.proofs.base.with_product.Goals as goal

pub overflow_add-b : goal.overflow_add-b
overflow_add-b c = record { fits = takes_carry _ _ c.product-b.ensures.room c.adder-low.ensures.bit }

pub overflow_add-result : goal.overflow_add-result
overflow_add-result c = record { fits = takes_carry _ _ (search rules) c.adder-high.ensures.bit }

pub returns : goal.returns
returns c = record { whole = carried _ _ _ _ _ _ c.product-b.ensures c.adder-low.ensures c.adder-high.ensures; small = takes_one _ _ c.adder-high.ensures.bit }
