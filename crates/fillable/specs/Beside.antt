-- The words beside the cells to be filled, of one table, where they stand. Assumes nothing.
use Rattle.std.specs.Prelude.{ℕ, ◌*◌, ◌/◌, ◌≤◌, Bool, ◌||◌, List, length, take, drop}
use Rattle.layout.specs.Lists.{any, up_to}
use Rattle.layout.specs.NotCircuit.{bad_word}

-- row r of rows of so many words
abbrev pub row_of : ℕ → List ℕ → ℕ → List ℕ
row_of width table r = take width (drop (r * width) table)

-- of one row, a bad word before the place `from`, or from the place `to` on
unfoldable pub bad_beside : ℕ → ℕ → List ℕ → Bool
bad_beside from to row = any bad_word (take from row) || any bad_word (drop to row)

-- of a table, such a word in one of so many rows, or a bad word in those after them
unfoldable pub bad_table_beside : ℕ → ℕ → ℕ → ℕ → List ℕ → Bool
bad_table_beside width from to filled table =
    any (λ r. bad_beside from to (row_of width table r)) (up_to filled) || any bad_word (drop (filled * width) table)

-- so many rows lie in the table, and the cells in a row
pub record Inside (width from to filled : ℕ) (table : List ℕ) : Type 0 where
  pub rows : filled * width ≤ length table
  pub front : from ≤ width
  pub back : to ≤ width

-- of a table of so many rows, some are filled, and the cells lie in a row
pub record Rowed (rows from to filled : ℕ) (table : List ℕ) : Type 0 where
  pub some : 1 ≤ rows
  pub fewer : filled ≤ rows
  pub front : from ≤ length table / rows
  pub back : to ≤ length table / rows
