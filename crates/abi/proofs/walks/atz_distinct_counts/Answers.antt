use Rattle.abi.proofs.Passing.{number_on}
use Rattle.abi.proofs.walks.atz_distinct_counts.Goals as goal

pub returns : goal.returns
returns c = number_on _ c.distinct_counts.ensures c.number.ensures
