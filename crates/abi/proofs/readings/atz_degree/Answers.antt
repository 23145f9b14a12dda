use Rattle.abi.proofs.Passing.{handed_on}
use Rattle.abi.proofs.readings.atz_degree.Goals as goal

pub returns : goal.returns
returns c = handed_on c.degree.ensures c.degree-2.ensures
