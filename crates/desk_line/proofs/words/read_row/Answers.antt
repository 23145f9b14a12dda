use mathlib.Core.Path.{refl}
use native.Mathlib.Omega.{arith}
use Rattle.desk_line.proofs.Cells.{row_stored_lem}
use Rattle.desk_line.proofs.words.read_row.Goals as goal

pub read_words-requires : goal.read_words-requires
read_words-requires c = record { places = omega (arith, c.requires.places); near = c.requires.near }

pub overflow_add-at : goal.overflow_add-at
overflow_add-at c = omega (arith, c.requires.places)

pub clear-requires : goal.clear-requires
clear-requires c = omega (arith, c.requires.places, c.read_words.auto.table)

pub returns : goal.returns
returns c = row_stored_lem _ _ _ _ _ _ _ _ _ refl c.read_words.ensures c.clear.ensures
