-- A whole trace: after fill_rows, every listed constraint is zero on every row (of a dual-row circuit, on every pair of neighbouring rows), each root has its
-- original's value there, and no other words in the cells to be filled make every constraint zero. Assumes nothing.
use Rattle.std.specs.Prelude.{ℕ, ◌+◌, ◌/◌, ◌≤◌, ◌≡◌, List, length}
use Rattle.reading.specs.Calls.{assigned}
use Rattle.lowering.specs.Lowering.{Lowering}
use Rattle.lowering.specs.Demand.{values_of}
use Rattle.filling.specs.Tables.{rows_read}
use Rattle.filling.specs.Calls.{row_cleared, all_rows}
use Rattle.filling.specs.Promise.{window_of, Zero}

-- a lowering of m and roots, the circuit m' since then, and how many rows a trace has
module _ (main_count aux_count : ℕ) (m roots : List ℕ) (after : Lowering) (m' challenges : List ℕ) (rows : ℕ) where
  -- each listed constraint is zero on each row that is filled, with the row after it where the circuit reads it
  abbrev pub ZeroTrace : List ℕ → List ℕ → Type 0
  ZeroTrace main aux = (r : ℕ) → r + rows_read m' ≤ rows
      → Zero main_count aux_count m' after.main after.aux challenges (window_of (rows_read m') (length main / rows) r main) (window_of (rows_read m') (length aux / rows) r aux)

  -- tables that differ in the cells to be filled only: cleared they are the same
  abbrev pub Beside : List ℕ × List ℕ → List ℕ × List ℕ → Type 0
  Beside t u = all_rows (rows_read m') (row_cleared main_count aux_count after.main after.aux) rows t ≡ all_rows (rows_read m') (row_cleared main_count aux_count after.main after.aux) rows u

  -- the tables before and after
  pub record FillsTrace (main aux main' aux' : List ℕ) : Type 0 where
    -- only the cells to be filled are written
    pub beside : Beside (main', aux') (main, aux)
    pub zeros : ZeroTrace main' aux'
    -- each lowered root has, on the filled trace, the value that its original has on the trace as it was lent, whatever stood in the cells to be filled
    pub keeps : (r : ℕ) → r + rows_read m' ≤ rows
        → values_of (assigned (window_of (rows_read m') (length main' / rows) r main') (window_of (rows_read m') (length aux' / rows) r aux') challenges) m' after.roots
        ≡ values_of (assigned (window_of (rows_read m') (length main / rows) r main) (window_of (rows_read m') (length aux / rows) r aux) challenges) m roots
    -- and no other words in the cells to be filled make every constraint zero
    pub only : (x y : List ℕ) → length x ≡ length main → length y ≡ length aux → Beside (x, y) (main, aux) → ZeroTrace x y → (x ≡ main') × (y ≡ aux')
