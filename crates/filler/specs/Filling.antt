-- Rows of a call, from the last to the first. Assumes nothing.
use Rattle.std.specs.Prelude.{ℕ, ◌+◌, ◌<◌, ◌≤◌, ◌≡◌, false, List, length}
use Rattle.layout.specs.Words.{used, row_kind}
use Rattle.circuit.specs.Rank.{at}
use Rattle.read.specs.Tables.{Filled}
use Rattle.read.specs.Bases.{base_bit}
use Rattle.layout.specs.Lists.{any}
use Rattle.layout.specs.NotCircuit.{bad_word}
use Rattle.filling.specs.Refusals.{bad_rows}
use Rattle.fillable.specs.Listing.{Listing}
use Rattle.fillable.specs.Given.{given_words}
use Rattle.filler.specs.declared.plan.Shape.{Shape}
use Rattle.filler.specs.Planning.{Ready}
use Rattle.filler.specs.Rowing.{RowInside, Prepared}
use Rattle.filler.specs.Preparing.{RightLists}

-- the shape of rows of so many columns
abbrev pub shape_of : ℕ → ℕ → List ℕ → List ℕ → ℕ → ℕ → Shape
shape_of main_count aux_count mains auxs row wide = record { main = main_count; fresh = length mains; row = row; aux = aux_count; wide = wide; items = length mains + length auxs }

-- so many rows lie in the tables, each with those that are read with it
pub record Within (s : Shape) (kind filled : ℕ) (main aux : List ℕ) : Type 0 where
  pub each : (r : ℕ) → r < filled → RowInside s kind r main aux

-- rows that can be filled by a plan
pub record Fillable (s : Shape) (filled many : ℕ) (m mains auxs challenges targets bases plan main aux words triples : List ℕ) : Type 0 where
  pub prepared : Prepared s m mains auxs challenges targets bases plan many
  pub ready : Ready m challenges (words, triples)
  pub within : Within s (row_kind m) filled main aux
  pub has_kind : 1 ≤ length m

-- rows that have passed the tests
pub record TestedRows (s : Shape) (filled : ℕ) (m mains auxs challenges targets bases main aux : List ℕ) : Type 0 where
  pub passed : RightLists s m mains auxs challenges targets
  pub base_bits : Filled (used m) (at bases) (base_bit m)
  pub bases_room : 4096 ≤ length bases
  pub targets_room : 8192 ≤ length targets
  pub within : Within s (row_kind m) filled main aux

-- tables and words that have passed all tests but the last
pub record GivenTables (main_count aux_count rows : ℕ) (m order rank mains auxs challenges main aux : List ℕ) : Type 0 where
  pub listing : Listing m order rank mains auxs
  pub tested : bad_rows rows main_count aux_count m mains auxs main aux challenges ≡ false
  pub good : any bad_word (given_words rows main_count aux_count m mains auxs main aux challenges) ≡ false
