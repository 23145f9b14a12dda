use Prim.Native.Nat.{ℕ, ◌<◌}
use Rattle.circuit.specs.Rank.{at}
use Rattle.paths.proofs.rising.place_of.Given as goal

abbrev pub invariant-loop-k : goal.invariant-loop-k
invariant-loop-k l = (j : ℕ) → j < l.k → at l.words j < l.v
