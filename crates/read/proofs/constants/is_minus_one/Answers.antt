use Rattle.reading.specs.Calls.{is_minus_one_call}
use Rattle.read.proofs.constants.is_minus_one.Goals as goal

pub returns : goal.returns
unfolding is_minus_one_call
returns c = c.constant_test.ensures
