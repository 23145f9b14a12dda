-- What is asked where a line is answered, and which kind of line it is. Assumes nothing.
use Rattle.std.specs.Prelude.{ℕ, ◌≤◌, List, length, eqb, if◌then◌else◌}
use Rattle.layout.specs.Words.{row_kind}
use Rattle.desk.specs.Lines.{opens}
use Rattle.desk_line.specs.Rows.{Places}

-- 1 for challenges, 2 for a row, 0 for a frame of document 01
unfoldable pub line_kind : List ℕ → List ℕ → ℕ
line_kind m line =
    if eqb (row_kind m) 0 then 0
    else if opens 48 98 line then 1
    else if opens 48 99 line then 2
    else 0

-- places for 1,024 challenges, of which so many words are given, and for the rows
pub record Desking (challenges : List ℕ) (given : ℕ) (main aux : List ℕ) : Type 0 where
  pub room : 3072 ≤ length challenges
  pub few : given ≤ 3072
  pub places : Places main aux
