-- Class tables that are kept from line to line. Assumes nothing.
use Rattle.std.specs.Prelude.{ℕ, ◌<◌, ◌≤◌, ◌≡◌, true, false, List, length, Result}
use Rattle.layout.specs.Words.{row_kind, used}
use Rattle.layout.specs.NotCircuit.{not_circuit}
use Rattle.layout.specs.Outcomes.{Outcome}
use Rattle.classes.specs.Numbers.{Sized}
use Rattle.layout.specs.declared.refusal.Refusal.{Refusal}
use Rattle.building.specs.Told.{told_id}
use Rattle.build.specs.Inner.{Buildable}
use Rattle.build_calls.specs.declared.calls.Request.{Request}
use Rattle.build_calls.specs.Answers.{Good}
use Rattle.framing.specs.declared.Request as frame
use Rattle.framing.specs.States.{lent}
use Rattle.framing.specs.Answers.{in_time}

-- room for the tables
pub record Tables (num t least : List ℕ) : Type 0 where
  pub sized : Sized num t
  pub leasts : 4097 ≤ length least

-- before the first 00 they hold nothing; afterwards there is a circuit, and they fit it
pub record Keeps (m num t least : List ℕ) : Type 0 where
  pub tables : Tables num t least
  pub fitting : (row_kind m ≡ 0 → ⊥) → Buildable m num t least

-- a call's answer, and tables that fit
pub record KeptAnswer (o : Outcome ℕ (List ℕ)) (a : Result ℕ Refusal) (m' num t least : List ℕ) : Type 0 where
  pub answer : told_id a m' ≡ o
  pub buildable : Buildable m' num t least

-- what is asked of two ids
pub record Askable (m num t least : List ℕ) (a b : ℕ) (asked : Request) : Type 0 where
  pub buildable : Buildable m num t least
  pub good : a < used m → b < used m → Good m asked

-- after a start or a lowering: what is started is a circuit
pub record Renewable (m num t least : List ℕ) : Type 0 where
  pub tables : Tables num t least
  pub circuit : (row_kind m ≡ 0 → ⊥) → not_circuit m ≡ false

-- before the first 00
pub record Startable (m num t least : List ℕ) : Type 0 where
  pub tables : Tables num t least
  pub unstarted : row_kind m ≡ 0

-- a request that comes in time
pub record Timely (m rs main aux num t least : List ℕ) (request : frame.Request) : Type 0 where
  pub keeps : Keeps m num t least
  pub timely : in_time (lent m rs main aux) request ≡ true
