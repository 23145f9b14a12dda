-- What the program `fill` may keep between lines. Assumes nothing.
use Rattle.std.specs.Prelude.{ℕ, List}
use Rattle.desk.specs.Desks.{Desk, fresh_desk}
use Rattle.desk.specs.Lines.{line_told}

-- a desk that lines led to, from the fresh one
pub data Reached : Desk → Type 0 where
  fresh : Reached fresh_desk
  line : (d : Desk) → Reached d → (l : List ℕ) → Reached (line_told d l).desk
