use Rattle.abi.proofs.Passing.{handed_on}
use Rattle.abi.proofs.readings.atz_base_test.Goals as goal

pub returns : goal.returns
returns c = handed_on c.base_test.ensures c.test.ensures
