use Rattle.read.specs.Degrees.{over_at}
use Rattle.layout.specs.Lists.{any, up_to}
use mathlib.Core.Bool.{false}
use mathlib.Core.Path.{◌≡◌}
use Rattle.read.proofs.degree.any_over.Given as goal

abbrev pub invariant-loop-i : goal.invariant-loop-i
invariant-loop-i l = any (over_at l.counts l.table) (up_to l.i) ≡ false
