use Rattle.read.proofs.Along.{Along}
use Rattle.read.specs.Degrees.{degree_to}
use Rattle.read.proofs.degree.degrees_along.Given as goal

abbrev pub invariant-loop-i : goal.invariant-loop-i
invariant-loop-i l = Along (degree_to l.m) l.m l.order l.initial.table l.table l.i-index
