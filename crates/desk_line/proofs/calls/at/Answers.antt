use Rattle.desk_line.proofs.Lines.{beyond_line}
use Rattle.desk_line.proofs.calls.at.Goals as goal

pub returns-then-line-i : goal.returns-then-line-i
returns-then-line-i c = beyond_line c.args.line.now c.args.i c.if-line-i.true
