use Rattle.read.specs.Bases.{base_bit}
use Rattle.read.specs.Tables.{Filled, Right, itself}
use Rattle.circuit.specs.Rank.{at}
use Rattle.read.proofs.base_test.bases.Given as goal

abbrev pub invariant-loop-i : goal.invariant-loop-i
invariant-loop-i l = Filled l.i (at l.table) (base_bit l.m) × Right itself l.m (at l.table) (base_bit l.m)
