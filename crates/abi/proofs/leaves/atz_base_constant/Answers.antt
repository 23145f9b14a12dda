use Rattle.abi.proofs.Passing.{number_on}
use Rattle.abi.proofs.leaves.atz_base_constant.Goals as goal

pub returns : goal.returns
returns c = number_on _ c.base_constant.ensures c.number.ensures
