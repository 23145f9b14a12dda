-- `field::extension::unlift` meets its contract, by the test that it branches on. Assumes nothing.
use Rattle.arithmetic.specs.Unlift.{unlift}
use Rattle.field.proofs.extension.unlift.Goals as goal

pub returns-then-unlifts : goal.returns-then-unlifts
unfolding unlift
returns-then-unlifts c = rw (← c.unlifts.ensures, c.if-unlifts.true)

pub returns-else-unlifts : goal.returns-else-unlifts
unfolding unlift
returns-else-unlifts c = rw (← c.unlifts.ensures, c.if-unlifts.false)
