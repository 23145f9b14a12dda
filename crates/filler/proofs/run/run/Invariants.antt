use Rattle.filler.proofs.Runs.{Running}
use Rattle.filler.proofs.run.run.Given as goal

abbrev pub invariant-loop-q : goal.invariant-loop-q
invariant-loop-q l = Running l.plan l.main l.aux l.initial.words l.initial.triples l.words l.triples l.q
