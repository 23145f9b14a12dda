use Rattle.read.specs.Tables.{operands_of}
use mathlib.Core.Path.{sym, ap}
use Rattle.read.proofs.step.operands_of.Goals as goal

pub returns-in-Operation : goal.returns-in-Operation
returns-in-Operation c = sym (ap operands_of c.in-Operation.is)
