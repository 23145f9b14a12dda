use Rattle.fillable.proofs.Operands.{operands_of}
use Rattle.fillable.proofs.form.column_plus.Goals as goal

pub column_sum-requires : goal.column_sum-requires
column_sum-requires c = operands_of _ _ _ _ _ _ c.in-Operation.is c.in-Add.is c.requires

pub returns-in-Add : goal.returns-in-Add
returns-in-Add c = rw (c.in-Operation.is, c.in-Add.is) c.column_sum.ensures

pub returns-in-Multiply : goal.returns-in-Multiply
returns-in-Multiply c = rw (c.in-Operation.is, c.in-Multiply.is)
