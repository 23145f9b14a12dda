use mathlib.Core.Path.{sym, ap}
use Rattle.circuit.specs.Walk.{step_of}
use Rattle.circuit.proofs.check.step_of.Goals as goal

pub returns-in-Operation : goal.returns-in-Operation
returns-in-Operation c = sym (ap step_of c.in-Operation.is)
