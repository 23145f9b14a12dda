use mathlib.Core.Path.{sym, ◌∙◌}
use Rattle.layout.specs.Words.{constant}
use Rattle.build.proofs.constants.constant.Goals as goal

pub returns-then-unlifts : goal.returns-then-unlifts
unfolding constant
returns-then-unlifts c = rw (sym c.unlifts.ensures ∙ c.if-unlifts.true)

pub returns-else-unlifts : goal.returns-else-unlifts
unfolding constant
returns-else-unlifts c = rw (sym c.unlifts.ensures ∙ c.if-unlifts.false)
