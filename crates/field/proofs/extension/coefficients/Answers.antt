-- `field::extension::coefficients` meets its contract: the five stores make the five-word list, by congruence. Assumes nothing.
use Rattle.arithmetic.specs.Extension.{coefficients}
use Rattle.field.proofs.extension.coefficients.Goals as goal

pub returns : goal.returns
unfolding coefficients
returns c = cc
