use mathlib.Core.Path.{ap, ◌∙◌}
use Rattle.circuit.specs.Walk.{step_of}
use Rattle.circuit.proofs.check.step_at.Goals as goal

pub returns : goal.returns
returns c = c.step_of.ensures ∙ ap step_of c.expression_at.ensures
