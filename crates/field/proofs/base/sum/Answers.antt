-- `field::base::sum` meets its contract: each way out is linear arithmetic with remainders by two numerals. Assumes nothing.
use Rattle.std.proofs.Common.{rules}
use Rattle.field.proofs.Words.{wrapped, high, low}
use Rattle.field.proofs.base.sum.Goals as goal

pub returns-then-s-a : goal.returns-then-s-a
returns-then-s-a c = wrapped _ _ _ (search rules) (search rules) (search rules) (search rules) (search rules)

pub returns-then-s-ge-P : goal.returns-then-s-ge-P
returns-then-s-ge-P c = high _ _ _ (search rules) (search rules) (search rules) (search rules)

pub returns-else-s-ge-P : goal.returns-else-s-ge-P
returns-else-s-ge-P c = low _ _ _ (search rules) (search rules) (search rules) (search rules)
