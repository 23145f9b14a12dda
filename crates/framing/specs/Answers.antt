-- Document 01, "The frame program": what a request does, and what it is answered. Assumes nothing.
use Rattle.std.specs.Prelude.{ℕ, Bool, true, false, not, List, [], ◌∷◌, ◌++◌, take, eqb, if◌then◌else◌, Result, Ok, Err}
use Rattle.std.proofs.lemmas.List.Edits.{sets}
use Rattle.layout.specs.declared.node.RowKind.{RowKind}
use Rattle.layout.specs.declared.node.RowKind.TheVariants.{Single, Dual}
use Rattle.layout.specs.declared.node.Position.TheVariants.{Main, Aux, NextMain, NextAux}
use Rattle.layout.specs.Words.{row_kind}
use Rattle.layout.specs.NotCircuit.{bad_id}
use Rattle.layout.specs.declared.refusal.Refusal.{Refusal}
use Rattle.layout.specs.Refusals.{number_of}
use Rattle.layout.specs.Outcomes.{Outcome, refusal}
use Rattle.layout.specs.Calls.{start_call}
use Rattle.building.specs.Calls.{input_call, challenge_call, base_call, extension_call, operation_call, subtract_call, negate_call}
use Rattle.lowering.specs.Calls.{lower_call}
use Rattle.framing.specs.declared.Reply.{Reply}
use Rattle.framing.specs.declared.Reply.TheVariants.{Bare, Id, Counts}
use Rattle.framing.specs.declared.Request.{Request}
use Rattle.framing.specs.declared.Request.TheVariants.{Start, Input, Challenge, Base, Extension, Operation, Subtract, Negate, Root, Lower, Nothing}
use Rattle.framing.specs.Digits.{two, twos}
use Rattle.framing.specs.States.{State, root_room, root_count, roots_of, with_root, without_roots}

-- the state after a request, and what it is answered
pub record Replied : Type 0 where
  pub state : State
  pub reply : Reply

-- as a call leaves it
abbrev pub told : Reply → List ℕ → List ℕ → List ℕ → List ℕ → Replied
told r circuit roots main aux = record { state = record { circuit = circuit; roots = roots; main = main; aux = aux }; reply = r }

-- FRAME, written 10
abbrev pub FRAME : ℕ
FRAME = 16

-- the refusal's number, or 0 then nothing
abbrev pub bare : State → ℕ → Replied
bare s n = record { state = s; reply = Bare n }

-- with another circuit
abbrev pub with_circuit : State → List ℕ → State
with_circuit s m = record { circuit = m; roots = s.roots; main = s.main; aux = s.aux }

-- with other roots
abbrev pub with_roots : State → List ℕ → State
with_roots s rs = record { circuit = s.circuit; roots = rs; main = s.main; aux = s.aux }

-- the refusal's number, or 0 then an id
unfoldable pub id_answer : State → Outcome ℕ (List ℕ) → Replied
id_answer s o = record { state = with_circuit s o.lent; reply = Id o.number o.values }

-- a circuit of this row kind, and no roots
unfoldable pub start_as : State → RowKind → Replied
start_as s kind =
    let o = start_call s.circuit kind in
    bare (with_roots (with_circuit s o.lent) (if eqb o.number 0 then without_roots s.roots else s.roots)) o.number

-- kind: 01 single, 02 dual
unfoldable pub start_answer : State → ℕ → Replied
start_answer s kind =
    if eqb kind 1 then start_as s Single
    else if eqb kind 2 then start_as s Dual
    else bare s FRAME

-- row: 00 main, 01 auxiliary, 02 next main, 03 next auxiliary. In a single-row circuit rows 00 and 01 are its two cases
unfoldable pub input_answer : State → ℕ → ℕ → Replied
input_answer s row c =
    if eqb row 0 then id_answer s (input_call s.circuit (Main c))
    else if eqb row 1 then id_answer s (input_call s.circuit (Aux c))
    else if eqb row 2 then id_answer s (input_call s.circuit (NextMain c))
    else if eqb row 3 then id_answer s (input_call s.circuit (NextAux c))
    else bare s FRAME

-- 64 roots, a 65th is NO_ROOM
unfoldable pub root_answer : State → ℕ → Replied
root_answer s i =
    let n = refusal ((2, bad_id s.circuit (i ∷ [])) ∷ (13, eqb (root_count s.roots) (root_room s.roots)) ∷ []) in
    bare (with_roots s (if eqb n 0 then with_root s.roots i else s.roots)) n

-- main count, aux count, main ids, aux ids
unfoldable pub lower_answer : State → ℕ → ℕ → ℕ → Replied
lower_answer s target main_count aux_count =
    let o = lower_call target main_count aux_count (record { circuit = s.circuit; roots = roots_of s.roots; main = s.main; aux = s.aux }) in
    record {
      state = record { circuit = o.lent.circuit; roots = sets s.roots 1 o.lent.roots; main = o.lent.main; aux = o.lent.aux };
      reply = Counts o.number o.values.0 o.values.1;
    }

-- what each frame asks
unfoldable pub answered : State → Request → Replied
answered s (Start kind) = start_answer s kind
answered s (Input row c) = input_answer s row c
answered s (Challenge k) = id_answer s (challenge_call s.circuit k)
answered s (Base w) = id_answer s (base_call s.circuit w)
answered s (Extension x) = id_answer s (extension_call s.circuit x)
answered s (Operation o l r) = id_answer s (operation_call s.circuit o l r)
answered s (Subtract a b) = id_answer s (subtract_call s.circuit a b)
answered s (Negate a) = id_answer s (negate_call s.circuit a)
answered s (Root i) = root_answer s i
answered s (Lower target main_count aux_count) = lower_answer s target main_count aux_count
answered s Nothing = bare s FRAME

abbrev pub is_start : Request → Bool
is_start (Start kind) = true
is_start (Input row c) = false
is_start (Challenge k) = false
is_start (Base w) = false
is_start (Extension x) = false
is_start (Operation o l r) = false
is_start (Subtract a b) = false
is_start (Negate a) = false
is_start (Root i) = false
is_start (Lower target main_count aux_count) = false
is_start Nothing = false

-- 00 is accepted once, all others are FRAME until then: a request comes in time
unfoldable pub in_time : State → Request → Bool
in_time s request = if eqb (row_kind s.circuit) 0 then is_start request else not (is_start request)

unfoldable pub replied : State → Request → Replied
replied s request = let r = answered s request in if in_time s request then r else bare s FRAME

-- the bytes of an answer: a refusal byte, or 00 then nothing, an id(2), or main count(2), aux count(2), main ids, aux ids
unfoldable pub reply_bytes : Reply → List ℕ → List ℕ → List ℕ
reply_bytes (Bare n) main aux = n ∷ []
reply_bytes (Id n i) main aux = n ∷ (if eqb n 0 then two i else [])
reply_bytes (Counts n a b) main aux = n ∷ (if eqb n 0 then twos (a ∷ b ∷ (take a main ++ take b aux)) else [])

-- what the calls answer, as replies
abbrev pub id_reply : Result ℕ Refusal → Reply
id_reply (Ok i) = Id 0 i
id_reply (Err r) = Id (number_of r) 0

abbrev pub counts_reply : Result (ℕ × ℕ) Refusal → Reply
counts_reply (Ok (a, b)) = Counts 0 a b
counts_reply (Err r) = Counts (number_of r) 0 0
