use Rattle.building.specs.Calls.{negate_call}
use Rattle.build_calls.proofs.Endings.{one_twice}
use Rattle.build_calls.proofs.calls.negate.Goals as goal

pub returns : goal.returns
unfolding negate_call
returns c = rw (one_twice c.args.m.now c.args.a) at c.on_nodes.ensures
