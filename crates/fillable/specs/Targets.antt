-- The test 17 NOT_LOWERED as the code answers it, which hands on the expressions of the listed nodes. Assumes nothing.
use Rattle.std.specs.Prelude.{ℕ, ◌+◌, ◌<◌, ◌≤◌, ◌≡◌, Bool, true, false, ◌||◌, not, List, length, if◌then◌else◌, Option, None, Some}
use Rattle.layout.specs.declared.node.Position.{Position}
use Rattle.layout.specs.declared.node.Position.TheVariants.{Main, Aux}
use Rattle.layout.specs.Words.{used}
use Rattle.layout.specs.Tree.{tree}
use Rattle.layout.specs.NotCircuit.{not_circuit, bad_id}
use Rattle.circuit.specs.Rank.{at}
use Rattle.reading.specs.Readings.{is_base}
use Rattle.read.specs.Tables.{Filled}
use Rattle.read.specs.Bases.{base_bit}
use Rattle.filling.specs.Constraints.{expression_of, reads_unfilled}
use Rattle.filling.specs.Refusals.{not_lowered}
use Rattle.fillable.specs.Listing.{Listing}
use Rattle.fillable.specs.Reaching.{reach_to}

-- with room for the expressions of both lists, and each node's base test
pub record Lowerable (main_count aux_count : ℕ) (m order rank mains auxs bases targets : List ℕ) : Type 0 where
  pub listing : Listing m order rank mains auxs
  pub bases_room : used m ≤ length bases
  pub base_bits : Filled (used m) (at bases) (base_bit m)
  pub targets_room : 8192 ≤ length targets
  pub main_fits : main_count + length mains ≤ 18446744073709551615
  pub aux_fits : aux_count + length auxs ≤ 18446744073709551615

-- the expressions of the main list, then those of the auxiliary list
pub record Targets (main_count aux_count : ℕ) (m mains auxs targets : List ℕ) : Type 0 where
  pub of_main : (k : ℕ) → k < length mains → expression_of m (Main (main_count + k)) (at mains k) ≡ Some (at targets k)
  pub of_aux : (k : ℕ) → k < length auxs → expression_of m (Aux (aux_count + k)) (at auxs k) ≡ Some (at targets (length mains + k))
  pub few : length mains + length auxs ≤ 8192

pub record Tested (main_count aux_count : ℕ) (m mains auxs targets : List ℕ) (r : Bool) : Type 0 where
  pub told : r ≡ not_lowered main_count aux_count m mains auxs
  pub found : r ≡ false → Targets main_count aux_count m mains auxs targets

-- an expression that passes
unfoldable pub unless : (ℕ → Bool) → Option ℕ → Option ℕ
unless wrong None = None
unless wrong (Some e) = if wrong e then None else Some e

-- a main expression is wrong where it reads an unfilled current-row column or fails the base test
abbrev pub wrong_for_main : ℕ → ℕ → List ℕ → ℕ → Bool
wrong_for_main a b m e = reads_unfilled a b m e || not (is_base (tree m e))

-- a circuit, and how far each of its nodes reads
pub record Reached (m main_reach aux_reach : List ℕ) : Type 0 where
  pub valid : not_circuit m ≡ false
  pub main_room : used m ≤ length main_reach
  pub aux_room : used m ≤ length aux_reach
  pub main_told : Filled (used m) (at main_reach) (reach_to true m)
  pub aux_told : Filled (used m) (at aux_reach) (reach_to false m)

-- and its base test
pub record Based (m bases : List ℕ) : Type 0 where
  pub room : used m ≤ length bases
  pub told : Filled (used m) (at bases) (base_bit m)

-- one list of nodes, whose columns are numbered from a count on, and room for its expressions from a place on: no more than there are nodes pass
pub record Listable (m main_reach aux_reach : List ℕ) (count first : ℕ) (qs targets : List ℕ) : Type 0 where
  pub reached : Reached m main_reach aux_reach
  pub ids : bad_id m qs ≡ false
  pub fits : count + length qs ≤ 18446744073709551615
  pub room : first + 4096 ≤ length targets

-- what the test of one list answers, where it is `wrong`, and hands on if it isn't
pub record Answered (wrong : Bool) (y : ℕ → Position) (count first : ℕ) (m qs targets targets' : List ℕ) (r : Bool) : Type 0 where
  pub told : r ≡ wrong
  pub found : r ≡ false → (k : ℕ) → k < length qs → expression_of m (y (count + k)) (at qs k) ≡ Some (at targets' (first + k))
  pub few : r ≡ false → length qs ≤ 4096
  pub kept : (k : ℕ) → k < first → at targets' k ≡ at targets k
