use Prim.Native.Nat.{ℕ, ◌<◌}
use mathlib.Core.Path.{◌≡◌}
use Rattle.circuit.specs.Rank.{at}
use Rattle.filler.proofs.order.list_ranked.Given as goal

abbrev pub invariant-loop-i : goal.invariant-loop-i
invariant-loop-i l = (j : ℕ) → j < l.i → at l.rank j < l.n → at l.order (at l.rank j) ≡ j
