use Rattle.building.specs.Calls.{minus_one_call}
use Rattle.build_calls.proofs.calls.minus_one.Goals as goal

pub returns : goal.returns
unfolding minus_one_call
returns c = c.base_constant.ensures
