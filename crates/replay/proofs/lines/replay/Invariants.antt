use Rattle.std.proofs.Common.{◌≤◌, length}
use Rattle.replay.proofs.lines.replay.Given as goal

abbrev pub invariant-loop : goal.invariant-loop
invariant-loop g l = l.kept ≤ length l.part
