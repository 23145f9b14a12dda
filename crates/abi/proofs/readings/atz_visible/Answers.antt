use Rattle.abi.proofs.Passing.{handed_on}
use Rattle.abi.proofs.readings.atz_visible.Goals as goal

pub returns : goal.returns
returns c = handed_on c.visible.ensures c.number.ensures
