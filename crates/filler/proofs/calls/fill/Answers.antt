use mathlib.Core.Path.{◌∙◌}
use Rattle.filler.proofs.Outcomes.{told_circuit, told_one}
use Rattle.filler.proofs.Outcomes.{short_circuit}
use Rattle.filler.proofs.calls.fill.Goals as goal

pub returns-then-m-lt-HEADER : goal.returns-then-m-lt-HEADER
returns-then-m-lt-HEADER c = told_circuit _ _ _ _ _ _ _ _ _ (short_circuit _ c.if-m-lt-HEADER.true) ∙ told_one _ _ 0 _ _ _ _ _ _

pub returns : goal.returns
returns c = c.fill_rows.ensures ∙ told_one _ _ 0 _ _ _ _ _ _
