use Rattle.paths.proofs.Lengths.{SizesTo}
use Rattle.paths.proofs.sizes.tree_sizes.Given as goal

abbrev pub invariant-loop-q : goal.invariant-loop-q
invariant-loop-q l = SizesTo l.m l.order l.sizes l.top l.q
