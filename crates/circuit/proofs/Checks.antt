-- How the parts of the check decide NOT_CIRCUIT. Assumes nothing.
use mathlib.Core.Path.{◌≡◌, sym, ap, ◌∙◌}
use mathlib.Core.Bool.{Bool, true, false, not, false≢true}
use mathlib.Core.List.{List}
use Prim.Native.Nat.{ℕ, ◌≤◌}
use lib.ListN.{length}
use Rattle.layout.specs.Lists.{any, up_to}
use Rattle.layout.specs.Words.{used}
use Rattle.layout.specs.NotCircuit.{bad_header, bad_node, not_circuit}
use Rattle.circuit.specs.Rank.{Sorted, Checked}
use Rattle.circuit.specs.Walk.{Walkable, Ordered}
use Rattle.layout.proofs.Valid.{valid_header, valid_nodes}

module _ (m order rank : List ℕ) where
  refused : not_circuit m ≡ true → Checked m order rank false
  refused h = record { told = ap not (sym h); sorted = λ e. absurd (false≢true e) }

  pub header_refused : bad_header m ≡ true → Checked m order rank false
  unfolding not_circuit
  header_refused h = refused (rw h)

  pub nodes_refused : bad_header m ≡ false → any (bad_node m) (up_to (used m)) ≡ true → Checked m order rank false
  unfolding not_circuit
  nodes_refused h n = refused (rw (h, n))

  pub order_decides : (answer : Bool) → bad_header m ≡ false → any (bad_node m) (up_to (used m)) ≡ false → Ordered m order rank answer → Checked m order rank answer
  unfolding not_circuit
  order_decides answer h n w = record { told = rw (h, n) w.told; sorted = w.sorted }

  -- of a circuit
  pub known_order : (answer : Bool) → not_circuit m ≡ false → Ordered m order rank answer → Sorted m order rank
  known_order answer v w = w.sorted (w.told ∙ ap not (valid_nodes m v).1)

pub known_walkable : (m rank : List ℕ) → not_circuit m ≡ false → 4096 ≤ length rank → Walkable m rank
known_walkable m rank v r = record { header = valid_header m v; good = (valid_nodes m v).0; room = r }
