-- The program `fill` on its input. Assumes nothing.
use Rattle.std.specs.Prelude.{ℕ, ◌+◌, ◌≤◌, List, length}
use Rattle.kept.specs.Keeps.{Keeps}
use Rattle.stream.specs.Stream.{Program}
use Rattle.desk.specs.Desks.{Desk}
use Rattle.desk.specs.Lines.{line_told}
use Rattle.desk.specs.Program.{told_line}
use Rattle.desk_line.specs.Kinds.{Desking}

-- a frame has at most 131,074 characters: two rows of 1,024 columns of each kind
abbrev pub fill_program : Program Desk
fill_program = record { most = 131075; next = λ d l. (line_told d l).desk; says = λ d l. told_line (line_told d l) }

-- how many places an answer may take: a row's, of 1,024 new columns of each kind
abbrev pub fill_room : ℕ
fill_room = 65539

-- what is kept from line to line: class tables that fit the circuit, and places for the challenges, the rows and the two lists
pub record Deskable (m numbers table least main aux challenges : List ℕ) (given : ℕ) (row_main row_aux : List ℕ) : Type 0 where
  pub keeps : Keeps m numbers table least
  pub desking : Desking challenges given row_main row_aux
  pub lists : length main + length aux ≤ 1024
