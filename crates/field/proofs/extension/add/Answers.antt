-- `field::extension::add` meets its contract: the three sums, by congruence. Assumes nothing.
use Rattle.arithmetic.specs.Extension.{plus}
use Rattle.field.proofs.extension.add.Goals as goal

pub returns : goal.returns
unfolding plus
returns c = cc
