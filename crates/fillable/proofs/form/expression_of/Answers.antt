use Rattle.fillable.proofs.Operands.{operands_same, operands_at}
use Rattle.layout.proofs.Valid.{valid_fits}
use Rattle.filling.specs.Constraints.{column_plus, expression_of}
use mathlib.Core.Path.{sym, ap, ◌∙◌}
use Rattle.fillable.proofs.form.expression_of.Goals as goal

pub expression_at-requires : goal.expression_at-requires
expression_at-requires c = valid_fits _ c.requires.0 _ c.requires.1

pub column_plus-requires : goal.column_plus-requires
column_plus-requires c = operands_same _ _ _ (sym c.expression_at.ensures) (operands_at _ c.requires.0 _ c.requires.1)

pub returns : goal.returns
unfolding expression_of
returns c = c.column_plus.ensures ∙ ap (column_plus c.args.m.now c.args.y) c.expression_at.ensures
