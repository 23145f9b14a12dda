use Rattle.paths.proofs.Counts.{add_small, add_big}
use Rattle.paths.proofs.counting.add_at.Goals as goal

pub returns-then-had-c : goal.returns-then-had-c
returns-then-had-c c = add_small c.args.counts.now c.args.i c.args.c c.if-had-c.true

pub returns-else-had-c : goal.returns-else-had-c
returns-else-had-c c = add_big c.args.counts.now c.args.i c.args.c c.requires.1 c.if-had-c.false
