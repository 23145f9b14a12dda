use Rattle.fillable.proofs.Operands.{operands_of}
use Rattle.fillable.proofs.form.minus_times.Goals as goal

pub minus_product-requires : goal.minus_product-requires
minus_product-requires c = operands_of _ _ _ _ _ _ c.in-Operation.is c.in-Multiply.is c.requires

pub returns-in-Multiply : goal.returns-in-Multiply
returns-in-Multiply c = rw (c.in-Operation.is, c.in-Multiply.is) c.minus_product.ensures
