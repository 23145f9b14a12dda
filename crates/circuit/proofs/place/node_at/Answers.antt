use Rattle.layout.specs.Words.{node_at}
use Rattle.circuit.proofs.place.node_at.Goals as goal

pub returns : goal.returns
unfolding node_at
returns c = cc
