-- `field::extension::equal` meets its contract: its tests are the definition's. Assumes nothing.
use Rattle.std.proofs.Common.{refl}
use Rattle.arithmetic.specs.Extension.{same_triple}
use Rattle.field.proofs.extension.equal.Goals as goal

pub returns : goal.returns
unfolding same_triple
returns c = refl
