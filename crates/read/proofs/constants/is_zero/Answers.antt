use Rattle.reading.specs.Calls.{is_zero_call}
use Rattle.read.proofs.constants.is_zero.Goals as goal

pub returns : goal.returns
unfolding is_zero_call
returns c = c.constant_test.ensures
