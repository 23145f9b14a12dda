use Rattle.abi.proofs.Passing.{handed_on}
use Rattle.abi.proofs.circuits.atz_read.Goals as goal

pub returns : goal.returns
returns c = handed_on c.read.ensures c.node.ensures
