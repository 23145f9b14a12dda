use Rattle.desk_line.proofs.Lines.{lowered_refused, lowered_accepted}
use Rattle.desk_line.proofs.calls.lowered.Goals as goal

pub returns-then-n-ne0 : goal.returns-then-n-ne0
returns-then-n-ne0 c = lowered_refused _ _ _ _ _ _ _ c.in-Counts.is c.if-n-ne0.true

pub returns-else-n-ne0 : goal.returns-else-n-ne0
returns-else-n-ne0 c = lowered_accepted _ _ _ _ _ _ _ c.in-Counts.is c.if-n-ne0.false
