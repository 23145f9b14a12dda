-- `field::base::subtract` meets its contract: operands may be reduced first. Assumes nothing.
use Rattle.std.proofs.Common.{◌∙◌, rules}
use Rattle.field.proofs.Words.{differs, subtract_reduced}
use Rattle.field.proofs.base.subtract.Goals as goal

pub returns : goal.returns
returns c = differs _ _ _ (search rules) (search rules) c.difference.ensures ∙ rw (c.remainder-2.ensures, c.remainder.ensures) (subtract_reduced _ _)
