use Rattle.abi.proofs.Passing.{number_on}
use Rattle.abi.proofs.operations.atz_subtract.Goals as goal

pub returns : goal.returns
returns c = number_on _ c.subtract.ensures c.number.ensures
