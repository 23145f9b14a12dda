use native.Mathlib.Omega.{arith}
use Rattle.classes.specs.Table.{spread}
use Rattle.classes.proofs.table.bucket.Goals as goal

pub returns : goal.returns
unfolding spread
returns c = omega arith
