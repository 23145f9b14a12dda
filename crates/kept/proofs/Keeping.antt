-- Laws of kept tables: what a start, a lowering and a request leave is a circuit, with tables that fit it. Assumes nothing.
use Rattle.std.specs.Prelude.{if◌then◌else◌, Result}
use Prim.Native.Nat.{ℕ, zero, suc, ◌≤◌}
use mathlib.Core.Path.{◌≡◌, refl, sym, ap, ◌∙◌}
use mathlib.Core.Bool.{Bool, true, false, not}
use mathlib.Core.List.{List, [], ◌∷◌, ◌++◌}
use native.Mathlib.Omega.{arith}
use lib.ListN.{length, set, length-set, replicate, length-replicate}
use lib.Seq.{get_or-set_same, get_or-set_other}
use lib.Dec.{ltb, eqb}
use borrow.Author.Tests.{le-ltb, ltb-false, eqb-true, eq-eqb}
use Rattle.layout.specs.declared.node.RowKind.{RowKind}
use Rattle.layout.specs.declared.node.RowKind.TheVariants.{Single, Dual}
use Rattle.layout.specs.Lists.{up_to, any, written}
use Rattle.layout.specs.Words.{row_word, row_kind, used, limit}
use Rattle.layout.specs.NotCircuit.{bad_id, bad_header, cyclic, not_circuit}
use Rattle.layout.specs.Outcomes.{Outcome, numbered, outcome, refusal}
use Rattle.layout.specs.Calls.{start_call}
use Rattle.layout.proofs.Lists.{clash}
use Rattle.layout.proofs.Refusals.{refusal_here, refusal_next, refusal_none, outcome_refused, outcome_accepted}
use Rattle.layout.specs.declared.refusal.Refusal.{Refusal}
use Rattle.building.specs.Building.{negated}
use Rattle.building.specs.Calls.{building, negate_call}
use Rattle.build.specs.Inner.{Buildable}
use Rattle.build.specs.Saved.{Classable}
use Rattle.build_calls.proofs.Endings.{one_twice}
use Rattle.lowering.specs.Lowering.{Lowering, too_high, lowered}
use Rattle.lowering.specs.Calls.{tests_first, tests_then, lower_call}
use Rattle.lowering.proofs.Fits.{in_place}
use Rattle.framing.specs.declared.Request.{Request}
use Rattle.framing.specs.declared.Reply.{Reply}
use Rattle.framing.specs.declared.Reply.TheVariants.{Bare}
use Rattle.framing.specs.States.{State, lent, roots_of}
use Rattle.framing.specs.Answers.{Replied, told, FRAME, id_answer, id_reply, start_as, start_answer, lower_answer, answered, is_start, in_time}
use Rattle.frame.proofs.Responding.{id_told, answers_to}
use Rattle.kept.specs.Keeps.{Keeps, KeptAnswer, Renewable, Startable, Timely}
use Rattle.kept.proofs.Asking.{buildable_keeps}

-- a start leaves an empty circuit, or changes nothing

empty_circuit : (x : List ℕ) (kind : RowKind) → 2 ≤ length x → used x ≡ 0 → row_kind x ≡ row_word kind → not_circuit x ≡ false
unfolding not_circuit bad_header cyclic up_to any
empty_circuit x Single l u k = rw (le-ltb (length x) 2 l, k, u, le-ltb (limit x) 0 (omega arith))
empty_circuit x Dual l u k = rw (le-ltb (length x) 2 l, k, u, le-ltb (limit x) 0 (omega arith))

-- what is started is a circuit
abbrev CircuitIfStarted : List ℕ → Type 0
CircuitIfStarted m = (row_kind m ≡ 0 → ⊥) → not_circuit m ≡ false

started : (m : List ℕ) (kind : RowKind) → row_kind m ≡ 0 → CircuitIfStarted (start_call m kind).lent
unfolding start_call
started m kind z = go (ltb (length m) 2) refl
  where
    x : List ℕ
    x = set (set m 0 (row_word kind)) 1 0

    tests : List (ℕ × Bool)
    tests = (1, ltb (length m) 2) ∷ []

    go : (b : Bool) → ltb (length m) 2 ≡ b → CircuitIfStarted (outcome tests (tt {0}) x (tt {0}) m).lent
    go true e = rw (outcome_refused tests (tt {0}) x (tt {0}) m 0 (refusal_here 1 _ [] e)) (λ h. absurd (h z))
    go false e =
        let l = ltb-false (length m) 2 e in
        let n : length x ≡ length m = length-set (set m 0 (row_word kind)) 1 0 ∙ length-set m 0 (row_word kind) in
        let u : used x ≡ 0 = get_or-set_same (set m 0 (row_word kind)) 1 0 0 (omega (arith, length-set m 0 (row_word kind))) in
        let k : row_kind x ≡ row_word kind = get_or-set_other (set m 0 (row_word kind)) 1 0 0 0 (λ q. omega arith) ∙ get_or-set_same m 0 (row_word kind) 0 (omega arith) in
        rw (outcome_accepted tests (tt {0}) x (tt {0}) m (refusal_next 1 _ [] e ∙ refusal_none)) (λ h. empty_circuit x kind (omega arith) u k)

pub start_renews : (m rs main aux : List ℕ) (kind : ℕ) (x : Replied) → row_kind m ≡ 0 → x ≡ start_answer (lent m rs main aux) kind → CircuitIfStarted x.state.circuit
unfolding start_answer start_as
start_renews m rs main aux kind x z e = rw e (go (eqb kind 1) (eqb kind 2))
  where
    go : (a b : Bool) → CircuitIfStarted (if a then start_as (lent m rs main aux) Single else if b then start_as (lent m rs main aux) Dual else told (Bare FRAME) m rs main aux).state.circuit
    go true b = started m Single z
    go false true = started m Dual z
    go false false = λ h. absurd (h z)

-- a lowering leaves a circuit

accepted_or_lent : (n : ℕ) (v : ℕ × ℕ) (after : Lowering) (z : ℕ × ℕ) (x : Lowering) → ((numbered n v after z x).number ≡ 0 → not_circuit (numbered n v after z x).lent.circuit ≡ false)
    → not_circuit x.circuit ≡ false → not_circuit (numbered n v after z x).lent.circuit ≡ false
accepted_or_lent zero v after z x f h = f refl
accepted_or_lent (suc n) v after z x f h = h

lower_valid : (target main_count aux_count : ℕ) (x : Lowering) → not_circuit x.circuit ≡ false → not_circuit (lower_call target main_count aux_count x).lent.circuit ≡ false
unfolding lower_call outcome
lower_valid target main_count aux_count x h =
    let y = lowered target main_count aux_count x.circuit x.roots in
    accepted_or_lent (refusal (tests_first target x ++ (if too_high target x.circuit x.roots then tests_then target main_count aux_count x else []))) (length y.main, length y.aux)
    (record { circuit = y.circuit; roots = y.roots; main = written y.main x.main; aux = written y.aux x.aux }) (0, 0) x
    (λ e. (in_place target main_count aux_count x e).valid) h

pub lower_renews : (m rs main aux : List ℕ) (target main_count aux_count : ℕ) (x : Replied) → not_circuit m ≡ false → x ≡ lower_answer (lent m rs main aux) target main_count aux_count → CircuitIfStarted x.state.circuit
unfolding lower_answer
lower_renews m rs main aux target main_count aux_count x h e k = rw e (lower_valid target main_count aux_count (record { circuit = m; roots = roots_of rs; main = main; aux = aux }) h)

-- what is left to renew

module _ (m num t least : List ℕ) (r : Renewable m num t least) (k : ℕ) (is : k ≡ row_kind m) where
  pub nothing_started : k ≡ 0 → Keeps m num t least
  nothing_started z = record { tables = r.tables; fitting = λ h. absurd (h (sym is ∙ z)) }

  pub classable : (k ≡ 0 → ⊥) → Classable m num t least
  classable h = record { circuit = r.circuit (λ z. h (is ∙ z)); sized = r.tables.sized; leasts = r.tables.leasts }

-- a request that comes in time: only a start finds nothing started

module _ (m rs main aux num t least : List ℕ) (request q : Request) (k : Timely m rs main aux num t least request) (is : request ≡ q) where
  pub startable : is_start q ≡ true → Startable m num t least
  unfolding in_time
  startable h = record { tables = k.keeps.tables; unstarted = go (eqb (row_kind m) 0) refl k.timely }
    where
      go : (b : Bool) → eqb (row_kind m) 0 ≡ b → (if b then is_start request else not (is_start request)) ≡ true → row_kind m ≡ 0
      go true e t = eqb-true (row_kind m) 0 e
      go false e t = clash (not (is_start request)) t (ap (λ (x : Request). not (is_start x)) is ∙ ap not h)

  pub begun : is_start q ≡ false → Buildable m num t least
  unfolding in_time
  begun h = k.keeps.fitting (λ z. clash (is_start request) (rw (eq-eqb (row_kind m) 0 z) at k.timely) (ap is_start is ∙ h))

-- a building call's answer, as a reply

module _ (m rs main aux : List ℕ) where
  pub id_kept : (o : Outcome ℕ (List ℕ)) (a : Result ℕ Refusal) (r : Reply) (m' num t least : List ℕ) → r ≡ id_reply a → KeptAnswer o a m' num t least
      → (told r m' rs main aux ≡ id_answer (lent m rs main aux) o) × Keeps m' num t least
  id_kept o a r m' num t least is k = (id_told m rs main aux o a r m' is k.answer, buildable_keeps m' num t least k.buildable)

  -- a negation is asked of one node as both
  pub negate_kept : (i : ℕ) (a : Result ℕ Refusal) (r : Reply) (m' num t least : List ℕ) → r ≡ id_reply a
      → KeptAnswer (building m ((2, bad_id m (i ∷ i ∷ [])) ∷ []) (negated m i)) a m' num t least → (told r m' rs main aux ≡ id_answer (lent m rs main aux) (negate_call m i)) × Keeps m' num t least
  unfolding negate_call
  negate_kept i a r m' num t least is k = rw (← one_twice m i) (id_kept _ a r m' num t least is k)

-- a request by its case
pub answers_kept : (s : State) (q q' : Request) (x : Replied) (m num t least : List ℕ) → q ≡ q' → (x ≡ answered s q') × Keeps m num t least → (x ≡ answered s q) × Keeps m num t least
answers_kept s q q' x m num t least e h = (answers_to s q q' x e h.0, h.1)

-- before the first line: words that are all zero, and tables of the least sizes
pub fresh_keeps : (n : ℕ) → Keeps (replicate n 0) (replicate 4096 0) (replicate 24574 0) (replicate 4097 0)
fresh_keeps n = record {
  tables = record {
    sized = record { numbers = omega (arith, length-replicate {A = ℕ} 4096 0); keys = omega (arith, length-replicate {A = ℕ} 24574 0) };
    leasts = omega (arith, length-replicate {A = ℕ} 4097 0);
  };
  fitting = λ h. absurd (h (zeros n));
}
  where
    zeros : (n : ℕ) → row_kind (replicate n 0) ≡ 0
    zeros zero = refl
    zeros (suc n) = refl
