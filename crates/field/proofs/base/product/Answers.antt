-- `field::base::product` meets its contract: a bound on each of the four products, and then linear arithmetic. Assumes nothing.
use Rattle.std.proofs.Common.{◌∙◌, arith, rules}
use Rattle.field.proofs.Words.{bounds, product_is}
use Rattle.field.proofs.base.product.Goals as goal

pub overflow_mul-p00 : goal.overflow_mul-p00
overflow_mul-p00 c = omega (arith, bounds c.args.u c.args.v (search rules) (search rules))

pub overflow_mul-p10 : goal.overflow_mul-p10
overflow_mul-p10 c = omega (arith, bounds c.args.u c.args.v (search rules) (search rules))

pub overflow_mul-p01 : goal.overflow_mul-p01
overflow_mul-p01 c = omega (arith, bounds c.args.u c.args.v (search rules) (search rules))

pub overflow_mul-p11 : goal.overflow_mul-p11
overflow_mul-p11 c = omega (arith, bounds c.args.u c.args.v (search rules) (search rules))

pub overflow_add-right : goal.overflow_add-right
overflow_add-right c = omega (arith, bounds c.args.u c.args.v (search rules) (search rules))

pub overflow_add-left : goal.overflow_add-left
overflow_add-left c = omega (arith, bounds c.args.u c.args.v (search rules) (search rules))

pub overflow_add-result : goal.overflow_add-result
overflow_add-result c = omega (arith, bounds c.args.u c.args.v (search rules) (search rules))

pub overflow_add-result-2 : goal.overflow_add-result-2
overflow_add-result-2 c = omega (arith, bounds c.args.u c.args.v (search rules) (search rules))

pub returns : goal.returns
returns c = product_is _ _ _ (search rules) (search rules) (c.wrapping_add_u64.ensures.value ∙ rw c.wrapping_add_u64-cross.ensures.value)
