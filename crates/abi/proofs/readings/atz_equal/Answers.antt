use Rattle.abi.proofs.Passing.{handed_on}
use Rattle.abi.proofs.readings.atz_equal.Goals as goal

pub returns : goal.returns
returns c = handed_on c.equal.ensures c.test.ensures
