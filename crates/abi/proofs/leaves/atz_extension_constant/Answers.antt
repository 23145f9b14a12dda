use Rattle.abi.proofs.Passing.{number_on}
use Rattle.abi.proofs.leaves.atz_extension_constant.Goals as goal

pub returns : goal.returns
returns c = number_on _ c.extension_constant.ensures c.number.ensures
