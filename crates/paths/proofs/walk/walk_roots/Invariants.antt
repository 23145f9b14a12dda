use Rattle.paths.proofs.Stacks.{Rooting}
use Rattle.paths.proofs.walk.walk_roots.Given as goal

abbrev pub invariant-loop-root : goal.invariant-loop-root
invariant-loop-root l = Rooting l.m l.roots l.initial.list l.initial.stack l.list l.stack l.at l.root-index
