use Rattle.filler.proofs.Eachs.{Filling}
use Rattle.filler.proofs.calls.fill_each.Given as goal

abbrev pub invariant-loop-r : goal.invariant-loop-r
invariant-loop-r l = Filling l.s l.filled l.m l.mains l.auxs l.challenges l.initial.main l.initial.aux l.initial.words l.initial.triples l.main l.aux l.words l.triples l.r
