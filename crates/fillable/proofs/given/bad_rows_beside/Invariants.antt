use Rattle.fillable.proofs.Turns.{Beside}
use Rattle.layout.specs.Lists.{any, up_to}
use mathlib.Core.Path.{◌≡◌}
use mathlib.Core.Bool.{false}
use Rattle.fillable.proofs.given.bad_rows_beside.Given as goal

abbrev pub invariant-loop-r : goal.invariant-loop-r
invariant-loop-r l = any (Beside l.width l.from l.to l.filled l.table) (up_to l.r) ≡ false
