use native.Mathlib.Nat.{add-zero}
use Rattle.layout.specs.Words.{node_at}
use Rattle.circuit.proofs.place.expression_at.Goals as goal

pub returns : goal.returns
unfolding node_at
returns c = rw add-zero c.decoded.ensures
