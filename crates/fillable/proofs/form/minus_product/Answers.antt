use Rattle.fillable.proofs.Operands.{left-fits, right_fits}
use mathlib.Core.Path.{sym, ◌∙◌}
use Rattle.fillable.proofs.form.minus_product.Goals as goal

pub is_constant-requires : goal.is_constant-requires
is_constant-requires c = left-fits c.requires

pub returns-then-is_constant : goal.returns-then-is_constant
returns-then-is_constant c = rw (sym c.is_constant.ensures ∙ c.if-is_constant.true)

pub is_constant-requires-2 : goal.is_constant-requires-2
is_constant-requires-2 c = right_fits c.requires

pub returns-then-is_constant-2 : goal.returns-then-is_constant-2
returns-then-is_constant-2 c = rw (sym c.is_constant.ensures ∙ c.if-is_constant.false, sym c.is_constant-2.ensures ∙ c.if-is_constant-2.true)

pub returns : goal.returns
returns c = rw (sym c.is_constant.ensures ∙ c.if-is_constant.false, sym c.is_constant-2.ensures ∙ c.if-is_constant-2.false)
