use Rattle.read.specs.Degrees.{degree_to}
use Rattle.read.specs.Tables.{Filled, Right, itself}
use Rattle.circuit.specs.Rank.{at}
use Rattle.read.proofs.degree.degrees.Given as goal

abbrev pub invariant-loop-i : goal.invariant-loop-i
invariant-loop-i l = Filled l.i (at l.table) (degree_to l.m) × Right itself l.m (at l.table) (degree_to l.m)
