use Rattle.abi.proofs.Passing.{handed_on}
use Rattle.abi.proofs.circuits.atz_free.Goals as goal

pub returns : goal.returns
returns c = handed_on c.free.ensures c.number.ensures
