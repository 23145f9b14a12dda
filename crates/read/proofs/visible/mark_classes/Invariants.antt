use Rattle.read.specs.Marks.{Marked}
use Rattle.read.proofs.visible.mark_classes.Given as goal

abbrev pub invariant-loop-i : goal.invariant-loop-i
invariant-loop-i l = Marked l.counts l.class l.seen l.i
