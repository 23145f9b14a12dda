use Rattle.lower.proofs.Selects.{Listing}
use Rattle.lower.proofs.choose.high_nodes.Given as goal

abbrev pub invariant-loop-i : goal.invariant-loop-i
invariant-loop-i l = Listing l.degrees l.counts l.d l.high l.many l.i
