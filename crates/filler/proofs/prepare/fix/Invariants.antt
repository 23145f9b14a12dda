use Rattle.filler.proofs.Fixes.{Fixing}
use Rattle.filler.proofs.prepare.fix.Given as goal

abbrev pub invariant-loop-i : goal.invariant-loop-i
invariant-loop-i l = Fixing l.m l.challenges l.initial.words l.initial.triples l.words l.triples l.i
