use Rattle.abi.proofs.Passing.{done_on}
use Rattle.abi.proofs.fillings.atz_fill_rows.Goals as goal

pub returns : goal.returns
returns c = done_on _ c.fill_rows.ensures c.number.ensures
