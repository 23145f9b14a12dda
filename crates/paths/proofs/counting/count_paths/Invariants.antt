use Rattle.paths.proofs.Counts.{Shares}
use Rattle.paths.proofs.counting.count_paths.Given as goal

abbrev pub invariant-loop-q : goal.invariant-loop-q
invariant-loop-q l = Shares l.m l.order l.roots l.counts l.q
