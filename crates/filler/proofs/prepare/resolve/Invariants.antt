use Rattle.filler.proofs.Fixes.{Resolving}
use Rattle.filler.proofs.prepare.resolve.Given as goal

abbrev pub invariant-loop-t : goal.invariant-loop-t
invariant-loop-t l = Resolving l.initial.t-items l.alias l.t-items l.t-index
