use Rattle.read.specs.Tables.{Filled}
use Rattle.read.specs.Values.{value_start}
use Rattle.reading.specs.Calls.{triple_at, assigned}
use Rattle.read.proofs.value.leaf_values.Given as goal

abbrev pub invariant-loop-i : goal.invariant-loop-i
invariant-loop-i l = Filled l.i (triple_at l.table) (value_start (assigned l.main l.aux l.challenges) l.m)
