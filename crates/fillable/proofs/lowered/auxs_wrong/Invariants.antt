use Rattle.fillable.proofs.Listings.{aux_test, Going}
use Rattle.layout.specs.declared.node.Position.TheVariants.{Aux}
use Rattle.fillable.proofs.lowered.auxs_wrong.Given as goal

abbrev pub invariant-loop-k : goal.invariant-loop-k
invariant-loop-k l = Going (aux_test l.main_end l.m) Aux l.aux_count l.first l.m l.auxs l.initial.targets l.targets l.k
