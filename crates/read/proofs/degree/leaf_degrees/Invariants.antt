use Rattle.read.specs.Tables.{Filled}
use Rattle.read.specs.Degrees.{degree_start}
use Rattle.circuit.specs.Rank.{at}
use Rattle.read.proofs.degree.leaf_degrees.Given as goal

abbrev pub invariant-loop-i : goal.invariant-loop-i
invariant-loop-i l = Filled l.i (at l.table) (degree_start l.m)
