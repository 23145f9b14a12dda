use Rattle.fillable.specs.Reaching.{reach_to}
use Rattle.read.proofs.Along.{Along}
use Rattle.fillable.proofs.reach.reaches.Given as goal

abbrev pub invariant-loop-i : goal.invariant-loop-i
invariant-loop-i l = Along (reach_to l.main l.m) l.m l.order l.initial.table l.table l.i-index
