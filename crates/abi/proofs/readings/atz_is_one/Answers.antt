use Rattle.abi.proofs.Passing.{handed_on}
use Rattle.abi.proofs.readings.atz_is_one.Goals as goal

pub returns : goal.returns
returns c = handed_on c.is_one.ensures c.test.ensures
