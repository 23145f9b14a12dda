-- `field::extension::subtract` meets its contract: the three differences, by congruence. Assumes nothing.
use Rattle.arithmetic.specs.Extension.{difference}
use Rattle.field.proofs.extension.subtract.Goals as goal

pub returns : goal.returns
unfolding difference
returns c = cc
