-- `field::extension::is_canonical` meets its contract: one test a word. Assumes nothing.
use Rattle.arithmetic.specs.Extension.{canonical_triple}
use Rattle.field.proofs.extension.is_canonical.Goals as goal

pub returns : goal.returns
unfolding canonical_triple
returns c = cc
