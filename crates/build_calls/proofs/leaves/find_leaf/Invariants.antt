use Rattle.classes.specs.Table.{listed}
use Rattle.build_calls.proofs.Wording.{NoneBefore}
use Rattle.build_calls.proofs.leaves.find_leaf.Given as goal

abbrev pub invariant-loop-i : goal.invariant-loop-i
invariant-loop-i l = NoneBefore l.m (listed l.w) l.i
