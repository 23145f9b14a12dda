-- Tables of so many rows: how many columns a row has, and which reads lie beyond it. Assumes nothing.
use Rattle.std.specs.Prelude.{ℕ, ◌+◌, ◌*◌, ◌/◌, ◌%◌, Bool, ◌&&◌, ◌||◌, not, List, length, ltb, eqb}
use Rattle.layout.specs.Lists.{any}
use Rattle.layout.specs.Words.{expression_at}
use Rattle.walking.specs.Paths.{walks}
use Rattle.filling.specs.Tables.{element_words}
use Rattle.filling.specs.Refusals.{beyond}
use Rattle.read.specs.declared.table.Columns.{Columns}

-- of one row, and of the challenge list
abbrev pub columns_in : ℕ → List ℕ → List ℕ → List ℕ → Columns
columns_in rows main aux challenges =
    record { main = length main / rows; aux = length aux / (element_words * rows); challenges = length challenges / element_words }

-- a length not divisible as its layout needs
abbrev pub uneven_in : ℕ → List ℕ → List ℕ → List ℕ → Bool
uneven_in rows main aux challenges =
    not (eqb (length main % rows) 0 && (eqb (length aux % (element_words * rows)) 0 && eqb (length challenges % element_words) 0))

-- a row without room for the new columns
abbrev pub too_narrow : Columns → ℕ → ℕ → List ℕ → List ℕ → Bool
too_narrow c main_count aux_count mains auxs = ltb c.main (main_count + length mains) || ltb c.aux (aux_count + length auxs)

-- a node at or below the roots that reads beyond a row
unfoldable pub read_beyond : Columns → List ℕ → List ℕ → Bool
read_beyond c m roots = any (λ i. beyond c.main c.aux c.challenges (expression_at m i)) (walks m roots)
