use Rattle.circuit.proofs.Checks.{known_walkable, known_order}
use Rattle.circuit.proofs.check.order_of.Goals as goal

pub sort-requires : goal.sort-requires
sort-requires c = (known_walkable _ _ c.requires.0 c.requires.1.1, c.requires.1.0)

pub returns : goal.returns
returns c = known_order _ _ _ _ c.requires.0 c.sort.ensures
