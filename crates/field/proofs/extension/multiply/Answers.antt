-- `field::extension::multiply` meets its contract: the coefficients are remainders, and the fold of them is one law. Assumes nothing.
use Rattle.std.proofs.Common.{ap, ◌∙◌, arith}
use Rattle.arithmetic.specs.Extension.{folded, times}
use Rattle.field.proofs.Folds.{below, folds}
use Rattle.field.proofs.extension.multiply.Goals as goal

pub difference-requires : goal.difference-requires
difference-requires c = omega (arith, below _ _ _ c.coefficients-d.ensures)

pub sum-requires : goal.sum-requires
sum-requires c = omega (arith, below _ _ _ c.coefficients-d.ensures)

pub difference-requires-2 : goal.difference-requires-2
difference-requires-2 c = omega (arith, below _ _ _ c.coefficients-d.ensures)

pub sum-requires-2 : goal.sum-requires-2
sum-requires-2 c = omega (arith, below _ _ _ c.coefficients-d.ensures)

pub returns : goal.returns
unfolding times
returns c = folds (below _ _ _ c.coefficients-d.ensures) c.difference.ensures c.sum.ensures c.difference-2.ensures c.sum-2.ensures ∙ ap folded c.coefficients-d.ensures
