use Prim.Native.Nat.{◌/◌}
use lib.ListN.{length}
use Rattle.filler.proofs.Ranks.{Reaching}
use Rattle.filler.proofs.order.rank_targets.Given as goal

abbrev pub invariant-loop-i : goal.invariant-loop-i
invariant-loop-i l = Reaching l.fn.s (length l.challenges / 3) l.m l.targets l.initial.rank l.rank l.done l.i-index
