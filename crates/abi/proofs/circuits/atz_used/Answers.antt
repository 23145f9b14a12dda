use Rattle.abi.proofs.Passing.{handed_on}
use Rattle.abi.proofs.circuits.atz_used.Goals as goal

pub returns : goal.returns
returns c = handed_on c.used.ensures c.number.ensures
