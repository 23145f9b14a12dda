use Prim.Native.Nat.{◌+◌}
use Rattle.build.proofs.Runs.{Summing}
use Rattle.build.proofs.several.try_sum.Given as goal

abbrev pub invariant-loop-id : goal.invariant-loop-id
invariant-loop-id l = Summing l.initial.m l.ids l.m l.numbers l.table l.least l.i (l.id-index + 1)
