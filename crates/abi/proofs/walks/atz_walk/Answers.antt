use Rattle.abi.proofs.Passing.{number_on}
use Rattle.abi.proofs.walks.atz_walk.Goals as goal

pub returns : goal.returns
returns c = number_on _ c.walk.ensures c.number.ensures
