-- The tables of a lowering, filled anew for each choice: what filling them asks and gives. Assumes nothing.
use Rattle.std.specs.Prelude.{ℕ, ◌<◌, ◌≤◌, ◌≡◌, Bool, false, List, length, if◌then◌else◌, Option, None, Some}
use Rattle.layout.specs.Words.{used}
use Rattle.layout.specs.Tree.{tree}
use Rattle.layout.specs.NotCircuit.{not_circuit, bad_id}
use Rattle.circuit.specs.Rank.{Sorted}
use Rattle.paths.specs.Counting.{PathCounts}
use Rattle.reading.specs.Readings.{is_base}
use Rattle.reading.specs.Refusals.{over_degree}
use Rattle.lowering.specs.Lowering.{too_high, candidates, best}
use Rattle.lowering.specs.Refusals.{over_occurrences}
use Rattle.lower.specs.Tables.{Degrees}

-- a circuit, roots in it, and a place for each node in every table
pub record Surveyable (m roots order rank degrees counts : List ℕ) : Type 0 where
  pub valid : not_circuit m ≡ false
  pub ids : bad_id m roots ≡ false
  pub order_room : 4096 ≤ length order
  pub rank_room : 4096 ≤ length rank
  pub degrees_room : 4096 ≤ length degrees
  pub counts_room : 4096 ≤ length counts

-- the order of the nodes, their degrees, and the paths from the roots to each
pub record Surveyed (m roots order rank degrees counts : List ℕ) : Type 0 where
  pub sorted : Sorted m order rank
  pub all_degrees : Degrees m degrees
  pub all_counts : PathCounts m roots counts

-- a circuit in order, and room for the high nodes and their counts
pub record Occurring (m order rank high occurrences : List ℕ) : Type 0 where
  pub valid : not_circuit m ≡ false
  pub sorted : Sorted m order rank
  pub order_room : 4096 ≤ length order
  pub high_room : 4096 ≤ length high
  pub room : 4096 ≤ length occurrences

-- a circuit and roots, no degree and no occurrences over the bounds
pub record Choosable (target : ℕ) (m roots : List ℕ) : Type 0 where
  pub valid : not_circuit m ≡ false
  pub ids : bad_id m roots ≡ false
  pub degree : over_degree m roots ≡ false
  pub few : over_occurrences target m roots ≡ false

-- the node to substitute next, while some root's degree exceeds the target
unfoldable pub chosen_next : ℕ → List ℕ → List ℕ → Option ℕ
chosen_next target m roots = let s = best (candidates target m roots) in if too_high target m roots then Some s else None

abbrev pub next_of : Option (ℕ × Bool) → Option ℕ
next_of (Some (s, b)) = Some s
next_of None = None

-- the choice, with the base test of a node that there is
pub record Picked (target : ℕ) (m roots : List ℕ) (r : Option (ℕ × Bool)) : Type 0 where
  pub told : next_of r ≡ chosen_next target m roots
  pub base : (s : ℕ) (b : Bool) → r ≡ Some (s, b) → s < used m → b ≡ is_base (tree m s)
