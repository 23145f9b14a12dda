use Rattle.std.proofs.Common.{rules}
use Rattle.filler.specs.Running.{instruction_at}
use Rattle.filler.proofs.run.instruction_at.Goals as goal

pub returns : goal.returns
unfolding instruction_at
returns c = search rules
