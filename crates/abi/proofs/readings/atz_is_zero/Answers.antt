use Rattle.abi.proofs.Passing.{handed_on}
use Rattle.abi.proofs.readings.atz_is_zero.Goals as goal

pub returns : goal.returns
returns c = handed_on c.is_zero.ensures c.test.ensures
