use Rattle.building.specs.Calls.{zero_call}
use Rattle.build_calls.proofs.calls.zero.Goals as goal

pub returns : goal.returns
unfolding zero_call
returns c = c.base_constant.ensures
