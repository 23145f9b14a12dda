-- Degrees in a table: one higher than the degree, as in Readings, and no higher than what is told apart. Assumes nothing.
use Rattle.std.specs.Prelude.{ℕ, ◌<◌, ◌≤◌, min, max, ◌≡◌, Bool, false, ◌&&◌, List, length, ltb, eqb}
use Rattle.layout.specs.declared.node.Op.{Op}
use Rattle.layout.specs.declared.node.Op.TheVariants.{Add, Multiply}
use Rattle.layout.specs.declared.node.Expression.{Expression}
use Rattle.layout.specs.Words.{used, expression_at}
use Rattle.layout.specs.NotCircuit.{not_circuit}
use Rattle.circuit.specs.Rank.{at}
use Rattle.layout.specs.Tree.{tree}
use Rattle.reading.specs.Readings.{leaf_degree⁺, product_degree⁺, degree⁺}
use Rattle.read.specs.Tables.{unknown, leaf_entry}

-- one higher than the least degree over the bound: more isn't told apart
abbrev pub top : ℕ
top = 2147483649

-- the degree of node i, as far as it is told apart
unfoldable pub degree_to : List ℕ → ℕ → ℕ
degree_to m i = min top (degree⁺ (tree m i))

-- what a degree table starts with
unfoldable pub degree_entry : Expression → ℕ
degree_entry e = leaf_entry leaf_degree⁺ unknown e

abbrev pub degree_start : List ℕ → ℕ → ℕ
degree_start m i = degree_entry (expression_at m i)

-- of an operation, from its operands' degrees
abbrev pub degree_over : Op → ℕ → ℕ → ℕ
degree_over Add a b = max a b
degree_over Multiply a b = product_degree⁺ a b

abbrev pub degree_join : Op → ℕ → ℕ → ℕ
degree_join o a b = min top (degree_over o a b)

-- node i has a path count, and a degree over the bound
abbrev pub over_at : List ℕ → List ℕ → ℕ → Bool
over_at counts table i = ltb 0 (at counts i) && eqb (at table i) top

-- a circuit, with a path count and a degree for each node
pub record Counted (m counts table : List ℕ) : Type 0 where
  pub valid : not_circuit m ≡ false
  pub counts_room : used m ≤ length counts
  pub table_room : used m ≤ length table

-- each root has an entry
pub record Rows (roots table : List ℕ) : Type 0 where
  pub below : (k : ℕ) → k < length roots → at roots k < length table
