use Rattle.read.specs.Tables.{Filled}
use Rattle.read.specs.Bases.{base_start}
use Rattle.circuit.specs.Rank.{at}
use Rattle.read.proofs.base_test.leaf_bases.Given as goal

abbrev pub invariant-loop-i : goal.invariant-loop-i
invariant-loop-i l = Filled l.i (at l.table) (base_start l.m)
