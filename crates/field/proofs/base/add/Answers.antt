-- `field::base::add` meets its contract: operands may be reduced first. Assumes nothing.
use Rattle.field.proofs.Words.{add_reduced}
use Rattle.field.proofs.base.add.Goals as goal

pub returns : goal.returns
returns c = rw (c.sum.ensures, c.remainder-2.ensures, c.remainder.ensures) (add_reduced _ _)
