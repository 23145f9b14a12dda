use Prim.Native.Nat.{ℕ, ◌<◌}
use mathlib.Core.Path.{◌≡◌}
use lib.ListN.{length}
use Rattle.circuit.specs.Rank.{at}
use Rattle.circuit.proofs.check.list.Given as goal

abbrev pub invariant-loop-i : goal.invariant-loop-i
invariant-loop-i l = (length l.order ≡ length l.initial.order) × ((j : ℕ) → j < l.i → at l.order (at l.rank j) ≡ j)
