use mathlib.Core.Path.{◌≡◌}
use mathlib.Core.Bool.{false}
use Rattle.layout.specs.Lists.{any, up_to}
use Rattle.lower.specs.Tables.{is_loose_in}
use Rattle.lower.proofs.tests.any_loose.Given as goal

abbrev pub invariant-loop-i : goal.invariant-loop-i
invariant-loop-i l = any (is_loose_in l.m l.counts) (up_to l.i) ≡ false
