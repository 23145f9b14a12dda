use Rattle.fillable.proofs.Turns.{rest_lent}
use Rattle.layout.specs.Lists.{any}
use Rattle.layout.specs.NotCircuit.{bad_word}
use Rattle.fillable.specs.Beside.{bad_beside}
use mathlib.Core.Path.{sym, ap, ◌∙◌}
use Rattle.fillable.proofs.given.bad_beside.Goals as goal

pub returns-then-any_bad : goal.returns-then-any_bad
unfolding bad_beside
returns-then-any_bad c = c.if-any_bad.true ∙ rw (sym c.any_bad.ensures ∙ c.if-any_bad.true)

pub returns-else-any_bad : goal.returns-else-any_bad
unfolding bad_beside
returns-else-any_bad c = rw (sym c.any_bad.ensures ∙ c.if-any_bad.false) (c.any_bad-else-any_bad.ensures ∙ ap (any bad_word) (rest_lent c.args.to c.args.row.now))
