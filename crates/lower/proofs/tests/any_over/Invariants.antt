use mathlib.Core.Path.{◌≡◌}
use mathlib.Core.Bool.{false}
use Rattle.layout.specs.Lists.{any, up_to}
use Rattle.lower.specs.Tables.{is_over_in}
use Rattle.lower.proofs.tests.any_over.Given as goal

abbrev pub invariant-loop-i : goal.invariant-loop-i
invariant-loop-i l = any (is_over_in l.degrees l.occurrences) (up_to l.i) ≡ false
