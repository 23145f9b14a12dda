-- `field::extension::unlifts` meets its contract: its tests are the definition's. Assumes nothing.
use Rattle.std.proofs.Common.{refl}
use Rattle.arithmetic.specs.Extension.{unlifts}
use Rattle.field.proofs.extension.unlifts.Goals as goal

pub returns : goal.returns
unfolding unlifts
returns c = refl
