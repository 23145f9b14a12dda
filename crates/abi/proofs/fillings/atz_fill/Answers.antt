use Rattle.abi.proofs.Passing.{done_on}
use Rattle.abi.proofs.fillings.atz_fill.Goals as goal

pub returns : goal.returns
returns c = done_on _ c.fill.ensures c.number.ensures
