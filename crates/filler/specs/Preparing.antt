-- What has passed the tests, and is prepared for its rows once a call. Assumes nothing.
use Rattle.std.specs.Prelude.{ℕ, ◌+◌, ◌/◌, ◌<◌, ◌≤◌, ◌≡◌, false, List, ◌++◌, length}
use Rattle.layout.specs.Lists.{any}
use Rattle.layout.specs.Words.{used, expression_at}
use Rattle.layout.specs.NotCircuit.{not_circuit, bad_id}
use Rattle.walking.specs.Paths.{walks}
use Rattle.circuit.specs.Rank.{at}
use Rattle.read.specs.Tables.{Filled}
use Rattle.read.specs.Bases.{base_bit}
use Rattle.filling.specs.Refusals.{beyond, not_lowered}
use Rattle.fillable.specs.Targets.{Targets}
use Rattle.filler.specs.declared.plan.Shape.{Shape}
use Rattle.filler.specs.Planning.{Small}

-- lists that are right, in rows of this shape
pub record RightLists (s : Shape) (m mains auxs challenges targets : List ℕ) : Type 0 where
  pub valid : not_circuit m ≡ false
  pub main_ids : bad_id m mains ≡ false
  pub aux_ids : bad_id m auxs ≡ false
  pub lowered : not_lowered s.main s.aux m mains auxs ≡ false
  pub found : Targets s.main s.aux m mains auxs targets
  pub is_fresh : s.fresh ≡ length mains
  pub is_items : s.items ≡ length mains + length auxs
  pub main_fits : s.main + length mains ≤ s.row
  pub aux_fits : s.aux + length auxs ≤ s.wide
  pub reads : any (λ i. beyond s.row s.wide (length challenges / 3) (expression_at m i)) (walks m (mains ++ auxs)) ≡ false
  pub small : Small s

-- with room for the plan
pub record Preparing (s : Shape) (m mains auxs challenges targets bases plan : List ℕ) : Type 0 where
  pub passed : RightLists s m mains auxs challenges targets
  pub base_bits : Filled (used m) (at bases) (base_bit m)
  pub bases_room : 4096 ≤ length bases
  pub targets_room : 8192 ≤ length targets
  pub plan_room : 16384 ≤ length plan

-- each of the first so many targets is where its value stands
pub record Resolved (targets alias targets' : List ℕ) (items : ℕ) : Type 0 where
  pub same : length targets' ≡ length targets
  pub told : (k : ℕ) → k < items → at targets' k ≡ at alias (at targets k)
