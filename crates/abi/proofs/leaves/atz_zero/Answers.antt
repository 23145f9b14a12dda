use Rattle.abi.proofs.Passing.{number_on}
use Rattle.abi.proofs.leaves.atz_zero.Goals as goal

pub returns : goal.returns
returns c = number_on _ c.zero.ensures c.number.ensures
