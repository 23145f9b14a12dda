-- One pass up the order: each node's answer from those of its operands, which stand before it. Assumes nothing.
use Rattle.std.specs.Prelude.{ℕ, ◌<◌, ◌≤◌, ◌≡◌, false, List, length}
use Rattle.layout.specs.declared.node.Op.{Op}
use Rattle.layout.specs.declared.node.Expression.TheVariants.{Operation}
use Rattle.layout.specs.Words.{used, expression_at}
use Rattle.layout.specs.NotCircuit.{not_circuit}
use Rattle.circuit.specs.Rank.{at, Sorted}

-- a circuit with its nodes in order, and room for an answer of each
pub record Ordered (m order rank table : List ℕ) : Type 0 where
  pub valid : not_circuit m ≡ false
  pub sorted : Sorted m order rank
  pub order_room : used m ≤ length order
  pub room : used m ≤ length table

-- node i, whose operands have their answers
pub record Joinable (answer : ℕ → ℕ) (m table : List ℕ) (i : ℕ) : Type 0 where
  pub valid : not_circuit m ≡ false
  pub here : i < used m
  pub room : used m ≤ length table
  pub operands : (o : Op) (l r : ℕ) → expression_at m i ≡ Operation o l r → (at table l ≡ answer l) × (at table r ≡ answer r)
