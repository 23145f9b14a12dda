use Rattle.fillable.proofs.Listings.{main_test, Going}
use Rattle.layout.specs.declared.node.Position.TheVariants.{Main}
use Rattle.fillable.proofs.lowered.mains_wrong.Given as goal

abbrev pub invariant-loop-k : goal.invariant-loop-k
invariant-loop-k l = Going (main_test l.aux_count l.m) Main l.main_count 0 l.m l.mains l.initial.targets l.targets l.k
