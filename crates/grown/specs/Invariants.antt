-- What is true of every grown circuit: its words are a circuit, and no two registered nodes are equal by structure, in either order of the operands.
-- So of the registered nodes that a search looks at, "in a grown circuit only one can" match. Assumes nothing.
use Rattle.std.specs.Prelude.{ℕ, ◌<◌, ◌≡◌, true, false, List}
use Rattle.layout.specs.Words.{used, registered}
use Rattle.layout.specs.NotCircuit.{not_circuit}
use Rattle.layout.specs.Tree.{Tree, tree, same}
use Rattle.grown.specs.Results.{Unique}

pub record Invariants (m : List ℕ) : Type 0 where
  pub circuit : not_circuit m ≡ false
  pub unique : Unique m
  pub only_one : (t : Tree) (i j : ℕ) → i < used m → j < used m → registered m i ≡ true → registered m j ≡ true → same (tree m i) t ≡ true → same (tree m j) t ≡ true → i ≡ j
