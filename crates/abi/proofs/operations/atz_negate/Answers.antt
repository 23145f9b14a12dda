use Rattle.abi.proofs.Passing.{number_on}
use Rattle.abi.proofs.operations.atz_negate.Goals as goal

pub returns : goal.returns
returns c = number_on _ c.negate.ensures c.number.ensures
