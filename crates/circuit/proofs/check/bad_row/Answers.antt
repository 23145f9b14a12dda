use mathlib.Core.Path.{sym, ◌∙◌}
use Rattle.layout.specs.NotCircuit.{bad_row}
use Rattle.circuit.proofs.check.bad_row.Goals as goal

pub returns-then-is_next : goal.returns-then-is_next
unfolding bad_row
returns-then-is_next c = rw (sym c.is_next.ensures ∙ c.if-is_next.true)

pub returns : goal.returns
unfolding bad_row
returns c = rw (sym c.is_next.ensures ∙ c.if-is_next.false)
