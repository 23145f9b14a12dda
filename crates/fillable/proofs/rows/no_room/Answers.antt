use mathlib.Core.Path.{sym, ◌∙◌}
use Rattle.fillable.proofs.rows.no_room.Goals as goal

pub returns-then-is_narrow : goal.returns-then-is_narrow
returns-then-is_narrow c = rw (sym c.is_narrow.ensures ∙ c.if-is_narrow.true)

pub returns : goal.returns
returns c = rw (sym c.is_narrow.ensures ∙ c.if-is_narrow.false) c.is_narrow-2.ensures
