-- The given words of tables of so many rows: every word but the cells to be filled, where zeros stand. Assumes nothing.
use Rattle.std.specs.Prelude.{ℕ, List, ◌++◌}
use Rattle.filling.specs.Tables.{rows_read}
use Rattle.filling.specs.Calls.{row_cleared, all_rows}

abbrev pub given_words : ℕ → ℕ → ℕ → List ℕ → List ℕ → List ℕ → List ℕ → List ℕ → List ℕ → List ℕ
given_words rows main_count aux_count m mains auxs main aux challenges =
    let g = all_rows (rows_read m) (row_cleared main_count aux_count mains auxs) rows (main, aux) in
    g.0 ++ g.1 ++ challenges
