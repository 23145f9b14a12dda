use native.Mathlib.Omega.{arith}
use Rattle.desk_line.proofs.Cells.{rows_stored_one, rows_stored_two}
use Rattle.desk_line.proofs.words.read_rows.Goals as goal

pub read_row-requires : goal.read_row-requires
read_row-requires c = record { places = omega (arith, c.requires.places); near = omega (arith, c.requires.near) }

pub overflow_add-old : goal.overflow_add-old
overflow_add-old c = omega (arith, c.requires.places)

pub overflow_add-first : goal.overflow_add-first
overflow_add-first c = omega (arith, c.requires.near)

pub read_row-requires-then-rows-eq2 : goal.read_row-requires-then-rows-eq2
read_row-requires-then-rows-eq2 c = record { places = omega (arith, c.requires.places, c.read_row.auto.table); near = omega (arith, c.requires.near) }

pub returns-then-rows-eq2 : goal.returns-then-rows-eq2
returns-then-rows-eq2 c = rows_stored_two _ _ _ _ _ _ _ _ _ c.if-rows-eq2.true c.read_row.ensures c.read_row-then-rows-eq2.ensures

pub returns-else-rows-eq2 : goal.returns-else-rows-eq2
returns-else-rows-eq2 c = rows_stored_one _ _ _ _ _ _ _ _ c.requires.kind c.if-rows-eq2.false c.read_row.ensures
