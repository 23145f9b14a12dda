-- `field::base::negate` meets its contract: it takes the remainder away from 0. Assumes nothing.
use Rattle.std.proofs.Common.{◌∙◌, rules}
use Rattle.field.proofs.Words.{differs, subtract_zero}
use Rattle.field.proofs.base.negate.Goals as goal

pub returns : goal.returns
returns c = differs _ _ _ (search rules) (search rules) c.difference.ensures ∙ rw c.remainder.ensures (subtract_zero _)
