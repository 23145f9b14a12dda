use Rattle.read.specs.Tables.{operands_of, step_at}
use borrow.Author.Tests.{eq-eqb, ne_eqb}
use mathlib.Core.Path.{ap, ◌∙◌}
use Rattle.read.proofs.step.step_at.Goals as goal

pub returns-then-w-ne-UNKNOWN : goal.returns-then-w-ne-UNKNOWN
unfolding step_at
returns-then-w-ne-UNKNOWN c = rw (ne_eqb _ _ c.if-w-ne-UNKNOWN.true)

pub returns : goal.returns
unfolding step_at
returns c = rw (eq-eqb _ _ c.if-w-ne-UNKNOWN.false) (c.operands_of.ensures ∙ ap operands_of c.expression_at.ensures)
