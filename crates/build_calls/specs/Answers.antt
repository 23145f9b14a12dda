-- What is left of a public call of building once its tests have passed. Assumes nothing.
use Rattle.std.specs.Prelude.{ℕ, ◌<◌, ◌≤◌, ◌≡◌, false, List, [], ◌∷◌, length, Option, Result, ok_or}
use Rattle.layout.specs.Words.{used}
use Rattle.layout.specs.NotCircuit.{not_circuit, bad_id}
use Rattle.circuit.specs.Rank.{Sorted}
use Rattle.layout.specs.Outcomes.{Outcome, outcome}
use Rattle.layout.specs.declared.refusal.Refusal.{Refusal}
use Rattle.layout.specs.declared.refusal.Refusal.TheVariants as refusal
use Rattle.build_calls.specs.declared.calls.Request.{Request}
use Rattle.build_calls.specs.declared.calls.Request.TheVariants.{Operation, Negate, Subtract}
use Rattle.building.specs.Building.{Built, operate, negated, subtracted, full}
use Rattle.build.specs.Inner.{Buildable}

-- of an inner form
abbrev pub answer_of : Option ℕ → Result ℕ Refusal
answer_of made = ok_or made refusal.Full

-- FULL is the last test
unfoldable pub ending : List ℕ → Built → Outcome ℕ (List ℕ)
ending m b = outcome ((6, full m b) ∷ []) b.id b.circuit 0 m

-- what is asked of a circuit
abbrev pub requested : List ℕ → Request → Built
requested m (Operation o l r) = operate m o l r
requested m (Negate a) = negated m a
requested m (Subtract a b) = subtracted m a b

-- its ids are nodes
abbrev pub Good : List ℕ → Request → Type 0
Good m (Operation o l r) = (l < used m) × (r < used m)
Good m (Negate a) = a < used m
Good m (Subtract a b) = (a < used m) × (b < used m)

pub record Requestable (m num t least : List ℕ) (request : Request) : Type 0 where
  pub buildable : Buildable m num t least
  pub good : Good m request

-- a circuit that was checked, and its rank
pub record Ranked (m order rank : List ℕ) : Type 0 where
  pub circuit : not_circuit m ≡ false
  pub sorted : Sorted m order rank
  pub ids : 4096 ≤ length order

pub record Grantable (m order rank : List ℕ) (request : Request) : Type 0 where
  pub ranked : Ranked m order rank
  pub good : Good m request

pub record Addable (m order rank ids : List ℕ) : Type 0 where
  pub ranked : Ranked m order rank
  pub some : 1 ≤ length ids
  pub below : bad_id m ids ≡ false
