use Rattle.abi.proofs.Passing.{number_on}
use Rattle.abi.proofs.operations.atz_multiply.Goals as goal

pub returns : goal.returns
returns c = number_on _ c.operation.ensures c.number.ensures
