use Rattle.circuit.proofs.Visits.{Ranking}
use Rattle.circuit.proofs.check.walk.Given as goal

abbrev pub invariant-loop-i : goal.invariant-loop-i
invariant-loop-i l = Ranking l.m l.initial.rank l.rank l.done l.i
