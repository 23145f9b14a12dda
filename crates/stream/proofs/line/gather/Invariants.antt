use Prim.Native.Nat.{◌≤◌}
use lib.ListN.{length, take}
use Rattle.stream.proofs.Gathering.{Gathering}
use Rattle.stream.proofs.line.gather.Given as goal

abbrev pub invariant-loop-i : goal.invariant-loop-i
invariant-loop-i l = (l.count ≤ length l.initial.line) × Gathering (length l.initial.line) (take l.kept l.initial.line) l.part l.i (take l.count l.line)
