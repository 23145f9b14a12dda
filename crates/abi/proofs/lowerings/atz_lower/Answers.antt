use Rattle.abi.proofs.Passing.{handed_on}
use Rattle.abi.proofs.lowerings.atz_lower.Goals as goal

pub returns : goal.returns
returns c = handed_on c.lower.ensures (c.lowered.ensures _)
