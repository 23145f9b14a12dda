use Rattle.abi.proofs.Passing.{handed_on}
use Rattle.abi.proofs.readings.atz_evaluate.Goals as goal

pub returns : goal.returns
returns c = handed_on c.evaluate.ensures c.value.ensures
