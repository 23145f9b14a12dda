use Rattle.classes.proofs.Firsts.{Lowering}
use Rattle.classes.proofs.least.least_ids.Given as goal

abbrev pub invariant-loop-i : goal.invariant-loop-i
invariant-loop-i l = Lowering l.initial.class l.class l.least l.n l.i
