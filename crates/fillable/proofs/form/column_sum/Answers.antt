use Rattle.fillable.proofs.Operands.{left-fits, right_fits, operands_same, operands_at}
use Rattle.layout.specs.declared.node.Op.TheVariants.{Add}
use Rattle.filling.specs.Constraints.{minus_times}
use mathlib.Core.Path.{refl, sym, ap, ◌∙◌}
use Rattle.fillable.proofs.form.column_sum.Goals as goal

pub is_input-requires : goal.is_input-requires
is_input-requires c = left-fits c.requires

pub expression_at-requires : goal.expression_at-requires
expression_at-requires c = right_fits c.requires

pub minus_times-requires : goal.minus_times-requires
minus_times-requires c = operands_same _ _ _ (sym c.expression_at.ensures) (operands_at _ c.requires.valid _ (c.requires.below Add _ _ refl).1)

pub returns-then-is_input : goal.returns-then-is_input
returns-then-is_input c = rw (sym c.is_input.ensures ∙ c.if-is_input.true) (c.minus_times.ensures ∙ ap (minus_times c.args.m.now) c.expression_at.ensures)

pub is_input-requires-2 : goal.is_input-requires-2
is_input-requires-2 c = right_fits c.requires

pub expression_at-requires-then-is_input-2 : goal.expression_at-requires-then-is_input-2
expression_at-requires-then-is_input-2 c = left-fits c.requires

pub minus_times-requires-then-is_input-2 : goal.minus_times-requires-then-is_input-2
minus_times-requires-then-is_input-2 c = operands_same _ _ _ (sym c.expression_at-then-is_input-2.ensures) (operands_at _ c.requires.valid _ (c.requires.below Add _ _ refl).0)

pub returns-then-is_input-2 : goal.returns-then-is_input-2
returns-then-is_input-2 c = rw (sym c.is_input.ensures ∙ c.if-is_input.false, sym c.is_input-2.ensures ∙ c.if-is_input-2.true) (c.minus_times-then-is_input-2.ensures ∙ ap (minus_times c.args.m.now) c.expression_at-then-is_input-2.ensures)

pub returns : goal.returns
returns c = rw (sym c.is_input.ensures ∙ c.if-is_input.false, sym c.is_input-2.ensures ∙ c.if-is_input-2.false)
