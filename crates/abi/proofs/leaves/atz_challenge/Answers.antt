use Rattle.abi.proofs.Passing.{number_on}
use Rattle.abi.proofs.leaves.atz_challenge.Goals as goal

pub returns : goal.returns
returns c = number_on _ c.challenge.ensures c.number.ensures
