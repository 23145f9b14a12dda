use Rattle.building.specs.Calls.{operation_call}
use Rattle.build_calls.proofs.calls.operation.Goals as goal

pub returns : goal.returns
unfolding operation_call
returns c = c.on_nodes.ensures
