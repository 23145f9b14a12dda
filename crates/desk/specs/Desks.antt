-- What the program `fill` keeps between lines. Assumes nothing.
use Rattle.std.specs.Prelude.{ℕ, zero, suc, Bool, true, false, List, []}
use Rattle.framing.specs.declared.Reply.{Reply}
use Rattle.framing.specs.declared.Reply.TheVariants.{Bare, Id, Counts}
use Rattle.framing.specs.declared.Request.{Request}
use Rattle.framing.specs.declared.Request.TheVariants.{Start, Input, Challenge, Base, Extension, Operation, Subtract, Negate, Root, Lower, Nothing}
use Rattle.framing.specs.States.{State, fresh}
use Rattle.desk.specs.declared.Latest.{Latest}

-- the frame program's state, the latest accepted lower frame, and the challenges' words
pub record Desk : Type 0 where
  pub state : State
  pub latest : Latest
  pub challenges : List ℕ

abbrev pub desk : State → Latest → List ℕ → Desk
desk state latest challenges = record { state = state; latest = latest; challenges = challenges }

abbrev pub latest : Bool → ℕ → ℕ → ℕ → ℕ → Latest
latest lowered main_count aux_count mains auxs = record { lowered = lowered; main_count = main_count; aux_count = aux_count; mains = mains; auxs = auxs }

-- none was accepted, and no challenges were given
abbrev pub fresh_desk : Desk
fresh_desk = desk fresh (latest false 0 0 0 0) []

-- the counts of a lower frame, and how many columns it is answered with
abbrev pub lowered : Latest → ℕ → ℕ → Reply → Latest
lowered l a b (Counts zero k n) = latest true a b k n
lowered l a b (Counts (suc refusal) k n) = l
lowered l a b (Bare n) = l
lowered l a b (Id n i) = l

-- an accepted lower frame takes the place of the one before
abbrev pub latest_after : Latest → Request → Reply → Latest
latest_after l (Lower target a b) r = lowered l a b r
latest_after l (Start kind) r = l
latest_after l (Input row c) r = l
latest_after l (Challenge k) r = l
latest_after l (Base w) r = l
latest_after l (Extension x) r = l
latest_after l (Operation o a b) r = l
latest_after l (Subtract a b) r = l
latest_after l (Negate a) r = l
latest_after l (Root i) r = l
latest_after l Nothing r = l
