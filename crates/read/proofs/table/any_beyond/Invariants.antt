use Rattle.read.specs.Lent.{beyond_at}
use Rattle.layout.specs.Lists.{any, up_to}
use mathlib.Core.Bool.{false}
use mathlib.Core.Path.{◌≡◌}
use Rattle.read.proofs.table.any_beyond.Given as goal

abbrev pub invariant-loop-i : goal.invariant-loop-i
invariant-loop-i l = any (beyond_at l.m l.counts l.c) (up_to l.i) ≡ false
