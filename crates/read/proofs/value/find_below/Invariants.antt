use Rattle.reading.specs.Calls.{triple_at}
use Rattle.reading.specs.Readings.{Assignment}
use Rattle.read.specs.Tables.{Right}
use Rattle.read.specs.Values.{value_at, first_word}
use Rattle.read.proofs.value.find_below.Given as goal

abbrev pub invariant-loop-i : goal.invariant-loop-i
invariant-loop-i l = (s : Assignment) → Right first_word l.m (triple_at l.initial.table) (value_at s l.m) → Right first_word l.m (triple_at l.table) (value_at s l.m)
