-- Values in a table of triples. Assumes nothing.
use Rattle.std.specs.Prelude.{ℕ, ◌+◌, ◌*◌, ◌<◌, ◌≤◌, List, length, set}
use Rattle.arithmetic.specs.declared.Triple.{Triple}
use Rattle.arithmetic.specs.Extension.{lift}
use Rattle.layout.specs.declared.node.Expression.{Expression}
use Rattle.layout.specs.Words.{used, expression_at}
use Rattle.layout.specs.Tree.{tree}
use Rattle.reading.specs.Readings.{Assignment, leaf_value, value}
use Rattle.read.specs.Tables.{unknown, leaf_entry, Ranked}

-- the value of node i
unfoldable pub value_at : Assignment → List ℕ → ℕ → Triple
value_at s m i = value s (tree m i)

-- what a table of values starts with
unfoldable pub value_entry : Assignment → Expression → Triple
value_entry s e = leaf_entry (leaf_value s) (lift unknown) e

abbrev pub value_start : Assignment → List ℕ → ℕ → Triple
value_start s m i = value_entry s (expression_at m i)

-- the first word of an entry
abbrev pub first_word : Triple → ℕ
first_word x = x.c0

-- entry i becomes x
abbrev pub put_triple : List ℕ → ℕ → Triple → List ℕ
put_triple table i x = set (set (set table (3 * i) x.c0) (3 * i + 1) x.c1) (3 * i + 2) x.c2

-- node i is asked for, and the nodes that are asked for first have a path count
pub record Evaluable (m rank counts : List ℕ) (i : ℕ) : Type 0 where
  pub ranked : Ranked m rank
  pub counts_room : used m ≤ length counts
  pub here : i < used m

-- all are, in a table with room for each
pub record Findable (m rank counts table : List ℕ) : Type 0 where
  pub ranked : Ranked m rank
  pub counts_room : used m ≤ length counts
  pub room : 3 * used m ≤ length table
