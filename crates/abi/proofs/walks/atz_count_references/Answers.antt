use Rattle.abi.proofs.Passing.{done_on}
use Rattle.abi.proofs.walks.atz_count_references.Goals as goal

pub returns : goal.returns
returns c = done_on _ c.count_references.ensures c.number.ensures
