use Rattle.paths.proofs.Gathers.{Gathered}
use Rattle.paths.proofs.references.gather.Given as goal

abbrev pub invariant-loop-j : goal.invariant-loop-j
invariant-loop-j l = Gathered l.m l.counts l.initial.words l.words l.found l.j
