use Rattle.abi.proofs.Passing.{handed_on}
use Rattle.abi.proofs.readings.atz_highest.Goals as goal

pub returns : goal.returns
returns c = handed_on c.highest.ensures c.degree.ensures
