use Rattle.building.specs.Calls.{one_call}
use Rattle.build_calls.proofs.calls.one.Goals as goal

pub returns : goal.returns
unfolding one_call
returns c = c.base_constant.ensures
