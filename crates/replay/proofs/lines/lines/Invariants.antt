use Rattle.std.proofs.Common.{◌≤◌}
use Rattle.replay.proofs.lines.lines.Given as goal

abbrev pub invariant-loop-i : goal.invariant-loop-i
invariant-loop-i g l = l.at ≤ l.i
