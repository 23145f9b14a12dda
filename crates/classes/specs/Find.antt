-- The tables that go along with a circuit, and what a search in them gives. Assumes nothing.
use Rattle.std.specs.Prelude.{ℕ, ◌-◌, ◌<◌, ◌≤◌, ◌≡◌, true, false, ◌&&◌, List, length, leb, eqb, Option}
use Rattle.layout.specs.declared.node.Expression.{Expression}
use Rattle.layout.specs.Lists.{up_to, first}
use Rattle.layout.specs.Words.{used, expression_at, registered}
use Rattle.layout.specs.NotCircuit.{not_circuit, either_operand}
use Rattle.circuit.specs.Rank.{at}
use Rattle.layout.specs.Tree.{tree, tree_of, same}
use Rattle.classes.specs.Classes.{class_of}
use Rattle.classes.specs.Numbers.{itself, Numbered, Sized, Orderly}
use Rattle.classes.specs.Least.{Firsts}

-- the tables fit the first n nodes: their class numbers, their keys, and of each number the least registered id
pub record Classed (m : List ℕ) (n : ℕ) (num t least : List ℕ) : Type 0 where
  pub numbered : Numbered m itself n num t
  pub firsts : Firsts (registered m) num least n
  pub sized : Sized num t
  pub leasts : 4097 ≤ length least

-- a circuit, its rank, and room for its tables
pub record Fillable (m order rank num t least : List ℕ) : Type 0 where
  pub orderly : Orderly m order rank num t
  pub leasts : 4097 ≤ length least

-- each node's class is the least id of equal structure
pub record Sorting (m class : List ℕ) : Type 0 where
  pub least : (i : ℕ) → i < used m → at class i ≡ class_of m i

-- the least registered node that is equal to e by structure
unfoldable pub least_equal : List ℕ → Expression → Option ℕ
least_equal m e = first (λ i. registered m i && same (tree m i) (tree_of m e)) (up_to (used m))

-- a circuit whose tables fit it, and an expression over its nodes
pub record Findable (m num t least : List ℕ) (e : Expression) : Type 0 where
  pub circuit : not_circuit m ≡ false
  pub classed : Classed m (used m) num t least
  pub operands : either_operand (leb (used m)) e ≡ false

-- the last node, which was just made
abbrev pub last : List ℕ → ℕ
last m = used m - 1

-- it is new to the tables, which fit the nodes before it: registered, and no operand of a node
pub record Joinable (m num t least : List ℕ) : Type 0 where
  pub circuit : not_circuit m ≡ false
  pub some : 1 ≤ used m
  pub new : registered m (last m) ≡ true
  pub apart : (i : ℕ) → i < used m → either_operand (eqb (last m)) (expression_at m i) ≡ false
  pub classed : Classed m (last m) num t least
