-- A frame of document 01 is answered with a number up to FRAME, whatever the words are. Assumes nothing.
use Rattle.std.specs.Prelude.{if◌then◌else◌}
use Prim.Native.Nat.{ℕ, ◌≤◌}
use mathlib.Core.Path.{◌≡◌, refl}
use mathlib.Core.Bool.{Bool, true, false}
use mathlib.Core.List.{List, [], ◌∷◌, ◌++◌}
use native.Mathlib.Omega.{arith}
use lib.ListN.{get_or}
use lib.Dec.{leb, eqb}
use borrow.Author.Tests.{leb-true}
use Rattle.layout.specs.declared.node.RowKind.{RowKind}
use Rattle.layout.specs.declared.node.RowKind.TheVariants.{Single, Dual}
use Rattle.layout.specs.declared.node.Position.{Position}
use Rattle.layout.specs.declared.node.Position.TheVariants as position
use Rattle.layout.specs.Lists.{all}
use Rattle.layout.specs.NotCircuit.{bad_id}
use Rattle.layout.specs.Outcomes.{refusal, outcome}
use Rattle.layout.specs.Calls.{start_call}
use Rattle.layout.proofs.Lists.{and-true}
use Rattle.building.specs.Calls.{building, input_call, challenge_call, base_call, extension_call, operation_call, subtract_call, negate_call}
use Rattle.lowering.specs.Lowering.{Lowering, too_high}
use Rattle.lowering.specs.Calls.{tests_first, tests_then, lower_call}
use Rattle.filling.proofs.Accepts.{outcome_number}
use Rattle.framing.specs.declared.Reply.{Reply}
use Rattle.framing.specs.declared.Reply.TheVariants.{Bare, Id, Counts}
use Rattle.framing.specs.declared.Request.{Request}
use Rattle.framing.specs.declared.Request.TheVariants.{Start, Input, Challenge, Base, Extension, Operation, Subtract, Negate, Root, Lower, Nothing}
use Rattle.framing.specs.States.{State, root_room, root_count}
use Rattle.framing.specs.Answers.{Replied, FRAME, bare, id_answer, start_as, start_answer, input_answer, root_answer, lower_answer, answered, in_time, replied, reply_bytes}

-- tests whose numbers are none above FRAME
abbrev pub low : List (ℕ × Bool) → Bool
low tests = all (λ t. leb t.0 FRAME) tests

pub refusal_low : (tests : List (ℕ × Bool)) → low tests ≡ true → refusal tests ≤ FRAME
unfolding refusal all
refusal_low [] h = omega arith
refusal_low ((n, true) ∷ ts) h = leb-true n FRAME (and-true (leb n FRAME) (low ts) h).0
refusal_low ((n, false) ∷ ts) h = refusal_low ts (and-true (leb n FRAME) (low ts) h).1

-- the first byte of an answer
abbrev number : Reply → ℕ
number (Bare n) = n
number (Id n i) = n
number (Counts n a b) = n

-- each call has such tests
outcome_low : {A L : Type 0} (tests : List (ℕ × Bool)) (values : A) (after : L) (zeros : A) (lent : L) → low tests ≡ true → (outcome tests values after zeros lent).number ≤ FRAME
outcome_low tests values after zeros lent h = rw (outcome_number tests values after zeros lent) (refusal_low tests h)

start_low : (m : List ℕ) (kind : RowKind) → (start_call m kind).number ≤ FRAME
unfolding start_call all
start_low m kind = outcome_low _ _ _ _ _ refl

input_low : (m : List ℕ) (q : Position) → (input_call m q).number ≤ FRAME
unfolding input_call building all
input_low m q = outcome_low _ _ _ _ _ refl

lower_low : (target a b : ℕ) (x : Lowering) → (lower_call target a b x).number ≤ FRAME
unfolding lower_call tests_first tests_then all
lower_low target a b x = outcome_low _ _ _ _ _ (go (too_high target x.circuit x.roots))
  where
    go : (c : Bool) → low (tests_first target x ++ (if c then tests_then target a b x else [])) ≡ true
    go true = refl
    go false = refl

module _ (s : State) where
  start_answer_lem : (kind : ℕ) → number (start_answer s kind).reply ≤ FRAME
  unfolding start_answer start_as
  start_answer_lem kind = go (eqb kind 1) (eqb kind 2)
    where
      go : (a b : Bool) → number (if a then start_as s Single else if b then start_as s Dual else bare s FRAME).reply ≤ FRAME
      go true b = start_low s.circuit Single
      go false true = start_low s.circuit Dual
      go false false = omega arith

  input_answer_lem : (row c : ℕ) → number (input_answer s row c).reply ≤ FRAME
  unfolding input_answer id_answer
  input_answer_lem row c = go (eqb row 0) (eqb row 1) (eqb row 2) (eqb row 3)
    where
      at : Position → Replied
      at q = id_answer s (input_call s.circuit q)

      go : (a b c' d : Bool) → number (if a then at (position.Main c) else if b then at (position.Aux c) else if c' then at (position.NextMain c) else if d then at (position.NextAux c) else bare s FRAME).reply ≤ FRAME
      go true b c' d = input_low s.circuit (position.Main c)
      go false true c' d = input_low s.circuit (position.Aux c)
      go false false true d = input_low s.circuit (position.NextMain c)
      go false false false true = input_low s.circuit (position.NextAux c)
      go false false false false = omega arith

  answer_low : (q : Request) → number (answered s q).reply ≤ FRAME
  unfolding answered id_answer challenge_call base_call extension_call operation_call subtract_call negate_call building root_answer lower_answer all
  answer_low (Start kind) = start_answer_lem kind
  answer_low (Input row c) = input_answer_lem row c
  answer_low (Challenge k) = outcome_low _ _ _ _ _ refl
  answer_low (Base w) = outcome_low _ _ _ _ _ refl
  answer_low (Extension x) = outcome_low _ _ _ _ _ refl
  answer_low (Operation o l r) = outcome_low _ _ _ _ _ refl
  answer_low (Subtract a b) = outcome_low _ _ _ _ _ refl
  answer_low (Negate a) = outcome_low _ _ _ _ _ refl
  answer_low (Root i) = refusal_low ((2, bad_id s.circuit (i ∷ [])) ∷ (13, eqb (root_count s.roots) (root_room s.roots)) ∷ []) refl
  answer_low (Lower target a b) = lower_low target a b _
  answer_low Nothing = omega arith

  reply_low : (q : Request) → number (replied s q).reply ≤ FRAME
  unfolding replied
  reply_low q = go (in_time s q)
    where
      go : (b : Bool) → number (if b then answered s q else bare s FRAME).reply ≤ FRAME
      go true = answer_low q
      go false = omega arith

  first_low : (r : Reply) (main aux : List ℕ) → number r ≤ FRAME → get_or (reply_bytes r main aux) 0 0 ≤ FRAME
  unfolding reply_bytes
  first_low (Bare n) main aux h = h
  first_low (Id n i) main aux h = h
  first_low (Counts n a b) main aux h = h

  -- the answer to a frame begins with a number up to FRAME
  pub frame_low : (q : Request) (main aux : List ℕ) → get_or (reply_bytes (replied s q).reply main aux) 0 0 ≤ FRAME
  frame_low q main aux = first_low (replied s q).reply main aux (reply_low q)
