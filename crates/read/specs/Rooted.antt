-- What the public calls hand to their inner parts: a circuit in order, and ids of its nodes. Assumes nothing.
use Rattle.std.specs.Prelude.{ℕ, ◌≤◌, ◌≡◌, false, List, length}
use Rattle.layout.specs.NotCircuit.{not_circuit, bad_id}
use Rattle.circuit.specs.Rank.{Sorted}

pub record Rooted (m order rank roots : List ℕ) : Type 0 where
  pub valid : not_circuit m ≡ false
  pub sorted : Sorted m order rank
  pub order_room : 4096 ≤ length order
  pub ids : bad_id m roots ≡ false
