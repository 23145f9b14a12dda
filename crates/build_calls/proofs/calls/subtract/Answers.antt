use Rattle.building.specs.Calls.{subtract_call}
use Rattle.build_calls.proofs.calls.subtract.Goals as goal

pub returns : goal.returns
unfolding subtract_call
returns c = c.on_nodes.ensures
