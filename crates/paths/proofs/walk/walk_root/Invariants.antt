use Prim.Native.Nat.{◌-◌}
use lib.ListN.{length}
use Rattle.paths.proofs.Stacks.{Unwinding}
use Rattle.paths.proofs.walk.walk_root.Given as goal

abbrev pub invariant-loop-depth : goal.invariant-loop-depth
invariant-loop-depth l = Unwinding l.m l.initial.list l.initial.stack l.root l.start l.list l.stack l.at l.depth

abbrev pub decreases-loop-depth : goal.decreases-loop-depth
decreases-loop-depth l = length l.initial.list - l.at
