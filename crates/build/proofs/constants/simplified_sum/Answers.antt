use mathlib.Core.Path.{sym, ◌∙◌}
use Rattle.build.specs.Inner.{simplified}
use Rattle.build.proofs.constants.simplified_sum.Goals as goal

pub returns-then-is_constant : goal.returns-then-is_constant
unfolding simplified
returns-then-is_constant c = rw (sym c.is_constant.ensures ∙ c.if-is_constant.true)

pub returns-then-is_constant-2 : goal.returns-then-is_constant-2
unfolding simplified
returns-then-is_constant-2 c = rw (sym c.is_constant.ensures ∙ c.if-is_constant.false, sym c.is_constant-2.ensures ∙ c.if-is_constant-2.true)

pub returns : goal.returns
unfolding simplified
returns c = rw (sym c.is_constant.ensures ∙ c.if-is_constant.false, sym c.is_constant-2.ensures ∙ c.if-is_constant-2.false)
