-- `field::extension::negate` meets its contract: the three words, by congruence. Assumes nothing.
use Rattle.arithmetic.specs.Extension.{minus}
use Rattle.field.proofs.extension.negate.Goals as goal

pub returns : goal.returns
unfolding minus
returns c = cc
