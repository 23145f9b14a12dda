use Prim.Native.Nat.{◌-◌}
use Rattle.layout.specs.Words.{used}
use Rattle.paths.proofs.Stacks.{Lineage}
use Rattle.paths.proofs.walk.descend.Given as goal

abbrev pub invariant-loop-l : goal.invariant-loop-l
invariant-loop-l l = Lineage l.m l.initial.stack l.i l.depth l.stack l.node l.top

abbrev pub decreases-loop-l : goal.decreases-loop-l
decreases-loop-l l = used l.m - l.top
