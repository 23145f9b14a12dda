use Rattle.abi.proofs.Passing.{number_on}
use Rattle.abi.proofs.leaves.atz_minus_one.Goals as goal

pub returns : goal.returns
returns c = number_on _ c.minus_one.ensures c.number.ensures
