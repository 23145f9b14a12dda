use Rattle.paths.specs.Counting.{Seeded}
use Rattle.paths.proofs.counting.seed.Given as goal

abbrev pub invariant-loop-root : goal.invariant-loop-root
invariant-loop-root l = Seeded l.n l.roots l.counts l.root-index
