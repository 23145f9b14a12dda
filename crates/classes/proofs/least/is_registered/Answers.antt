use mathlib.Core.Path.{ap}
use Rattle.layout.specs.declared.node.Node.{Node}
use Rattle.classes.proofs.least.is_registered.Goals as goal

pub returns : goal.returns
returns c = ap (λ (x : Node). x.registered) c.node_at-node.ensures
