-- What the calls that fill hand to their tests. Assumes nothing.
use Rattle.std.specs.Prelude.{ℕ, ◌≤◌, ◌≡◌, false, List, length}
use Rattle.layout.specs.NotCircuit.{not_circuit, bad_id}
use Rattle.circuit.specs.Rank.{Sorted}

-- a circuit in order, and two lists of its nodes
pub record Listing (m order rank mains auxs : List ℕ) : Type 0 where
  pub valid : not_circuit m ≡ false
  pub sorted : Sorted m order rank
  pub order_room : 4096 ≤ length order
  pub main_ids : bad_id m mains ≡ false
  pub aux_ids : bad_id m auxs ≡ false
