-- Laws of what a request does: each call's answer is a reply, and a number picks its case. Assumes nothing.
use Rattle.std.specs.Prelude.{if◌then◌else◌, Result, Ok, Err}
use Prim.Native.Nat.{ℕ, ◌+◌, ◌-◌, ◌<◌, ◌≤◌}
use mathlib.Core.Path.{◌≡◌, refl, sym, ap, ◌∙◌}
use mathlib.Core.Bool.{true, false, not}
use mathlib.Core.List.{List, [], ◌∷◌, ◌++◌, append_assoc}
use native.Mathlib.Omega.{arith}
use lib.ListN.{length, take, drop, length-drop}
use lib.Seq.{sets, sets-eq, take-nil, length-take-le, drop-drop}
use lib.Dec.{eqb}
use borrow.Author.Tests.{eq-eqb, ne_eqb}
use borrow.Rule.Slice.PartMut.{mid_of, put_mid}
use Rattle.layout.specs.declared.refusal.Refusal.{Refusal}
use Rattle.layout.specs.Refusals.{number_of}
use Rattle.layout.proofs.Unique.{number_some}
use Rattle.layout.specs.declared.node.RowKind.{RowKind}
use Rattle.layout.specs.Words.{row_kind, used}
use Rattle.layout.specs.NotCircuit.{bad_id}
use Rattle.layout.specs.Outcomes.{Outcome}
use Rattle.layout.specs.Calls.{start_call}
use Rattle.layout.specs.Answers.{told_start, answer_number}
use Rattle.layout.proofs.Refusals.{refusal_here, refusal_next, refusal_none, bad_id_here, bad_id_next, no_bad_id}
use Rattle.building.specs.Told.{told_id}
use Rattle.lowering.specs.Calls.{lower_call}
use Rattle.lower.specs.Told.{told_lowering}
use Rattle.framing.specs.declared.Reply.{Reply}
use Rattle.framing.specs.declared.Reply.TheVariants.{Bare}
use Rattle.framing.specs.declared.Request.{Request}
use Rattle.framing.specs.Digits.{hexadecimal}
use Rattle.framing.specs.Requests.{request_of}
use Rattle.framing.specs.States.{State, lent, root_room, root_count, roots_of, with_root, without_roots}
use Rattle.framing.specs.Answers.{Replied, told, bare, FRAME, id_answer, id_reply, start_as, start_answer, input_answer, root_answer, lower_answer, answered, is_start, in_time, replied, reply_bytes, counts_reply}
use Rattle.framing.specs.Frames.{line_answer, answer_line, framed, frame_call}
use Rattle.frame.specs.Puts.{Put}
use Rattle.frame.proofs.Reading.{Not}

module _ (m rs main aux : List ℕ) where
  -- until a 00 is accepted
  pub in_time_first : (request : Request) (k : ℕ) → k ≡ row_kind m → k ≡ 0 → is_start request ≡ in_time (lent m rs main aux) request
  unfolding in_time
  in_time_first request k is e = sym (rw (eq-eqb (row_kind m) 0 (sym is ∙ e)))

  pub in_time_after : (request : Request) (k : ℕ) → k ≡ row_kind m → Not k 0 → not (is_start request) ≡ in_time (lent m rs main aux) request
  unfolding in_time
  in_time_after request k is e = sym (rw (ne_eqb (row_kind m) 0 (λ z. e (is ∙ z))))

  -- a call's answer, as a reply
  pub id_told : (o : Outcome ℕ (List ℕ)) (a : Result ℕ Refusal) (r : Reply) (m' : List ℕ) → r ≡ id_reply a → told_id a m' ≡ o → told r m' rs main aux ≡ id_answer (lent m rs main aux) o
  unfolding id_answer
  id_told o (Ok i) r m' is e = rw (is, ← e)
  id_told o (Err k) r m' is e = rw (is, ← e)

  -- a start's
  pub start_told : (kind : RowKind) (a : Result (Unit {0}) Refusal) (m' : List ℕ) → told_start a m' ≡ start_call m kind
      → told (Bare (answer_number a)) m' (if eqb (answer_number a) 0 then without_roots rs else rs) main aux ≡ start_as (lent m rs main aux) kind
  unfolding start_as
  start_told kind (Ok u) m' e = rw (← e)
  start_told kind (Err k) m' e = rw (← e)

  module _ (kind : RowKind) (a : Result (Unit {0}) Refusal) (m' : List ℕ) (call : told_start a m' ≡ start_call m kind) where
    pub start_cleared : (u : Unit {0}) (rs' : List ℕ) → a ≡ Ok u → rs' ≡ without_roots rs → told (Bare 0) m' rs' main aux ≡ start_as (lent m rs main aux) kind
    start_cleared u rs' is c = rw c (rw is at (start_told kind a m' call))

    pub start_refused : (r : Refusal) → a ≡ Err r → told (Bare (number_of r)) m' rs main aux ≡ start_as (lent m rs main aux) kind
    start_refused r is = rw (ne_eqb (number_of r) 0 (λ z. number_some r (sym z))) at (rw is at (start_told kind a m' call))

  -- kind
  pub start_picked : (k kind : ℕ) (x : Replied) → kind ≡ k → x ≡ start_answer (lent m rs main aux) k → x ≡ start_answer (lent m rs main aux) kind
  start_picked k kind x e h = rw e h

  pub start_other : (kind : ℕ) → Not kind 1 → Not kind 2 → told (Bare FRAME) m rs main aux ≡ start_answer (lent m rs main aux) kind
  unfolding start_answer
  start_other kind a b = sym (rw (ne_eqb kind 1 a, ne_eqb kind 2 b))

  -- row
  pub input_picked : (k row c : ℕ) (x : Replied) → row ≡ k → x ≡ input_answer (lent m rs main aux) k c → x ≡ input_answer (lent m rs main aux) row c
  input_picked k row c x e h = rw e h

  pub input_other : (row c : ℕ) → Not row 0 → Not row 1 → Not row 2 → Not row 3 → told (Bare FRAME) m rs main aux ≡ input_answer (lent m rs main aux) row c
  unfolding input_answer
  input_other row c a b d e = sym (rw (ne_eqb row 0 a, ne_eqb row 1 b, ne_eqb row 2 d, ne_eqb row 3 e))

  -- roots
  pub root_bad : (i u : ℕ) → u ≡ used m → u ≤ i → told (Bare 2) m rs main aux ≡ root_answer (lent m rs main aux) i
  unfolding root_answer
  root_bad i u is h = sym (rw (refusal_here 2 _ ((13, eqb (root_count rs) (root_room rs)) ∷ []) (bad_id_here m i [] (omega (arith, is)))))

  module _ (i u : ℕ) (is : u ≡ used m) (h : i < u) where
    good : bad_id m (i ∷ []) ≡ false
    good = bad_id_next m i [] (omega (arith, is)) ∙ no_bad_id m

    pub root_full : (n k : ℕ) → n ≡ root_count rs → k ≡ root_room rs → n ≡ k → told (Bare 13) m rs main aux ≡ root_answer (lent m rs main aux) i
    unfolding root_answer
    root_full n k a b e =
        sym (rw (refusal_next 2 _ ((13, eqb (root_count rs) (root_room rs)) ∷ []) good ∙ refusal_here 13 _ [] (eq-eqb (root_count rs) (root_room rs) (sym a ∙ e ∙ b))))

    pub root_added : (n k : ℕ) (rs' : List ℕ) → n ≡ root_count rs → k ≡ root_room rs → Not n k → rs' ≡ with_root rs i → told (Bare 0) m rs' main aux ≡ root_answer (lent m rs main aux) i
    unfolding root_answer
    root_added n k rs' a b e w =
        sym (rw (
          refusal_next 2 _ ((13, eqb (root_count rs) (root_room rs)) ∷ []) good
              ∙ refusal_next 13 _ [] (ne_eqb (root_count rs) (root_room rs) (λ z. e (a ∙ z ∙ sym b))) ∙ refusal_none,
          w,
        ))

pub room_left : (rs : List ℕ) (n k : ℕ) → n ≡ root_count rs → k ≡ root_room rs → Not n k → root_count rs < root_room rs
unfolding root_count
room_left rs n k a b e = omega (arith, a, b, e)

-- a lowering's answer, as a reply; the roots are written back where they stand
module _ (target main_count aux_count : ℕ) (m main aux : List ℕ) where
  pub lower_told : (rs : List ℕ) (a : Result (ℕ × ℕ) Refusal) (r : Reply) (m' ids main' aux' rs' : List ℕ) → r ≡ counts_reply a
      → told_lowering a (record { circuit = m'; roots = ids; main = main'; aux = aux' }) ≡ lower_call target main_count aux_count (record { circuit = m; roots = roots_of rs; main = main; aux = aux })
      → rs' ≡ sets rs 1 ids → told r m' rs' main' aux' ≡ lower_answer (lent m rs main aux) target main_count aux_count
  unfolding lower_answer
  lower_told rs (Ok (a, b)) r m' ids main' aux' rs' is e w = rw (is, w, ← e)
  lower_told rs (Err k) r m' ids main' aux' rs' is e w = rw (is, w, ← e)

  pub lower_empty : (rs : List ℕ) (a : Result (ℕ × ℕ) Refusal) (r : Reply) (m' rs' main' aux' : List ℕ) → r ≡ counts_reply a → length rs ≡ 0 → length rs' ≡ length rs
      → told_lowering a (record { circuit = m'; roots = rs'; main = main'; aux = aux' }) ≡ lower_call target main_count aux_count (record { circuit = m; roots = rs; main = main; aux = aux })
      → told r m' rs' main' aux' ≡ lower_answer (lent m rs main aux) target main_count aux_count
  unfolding roots_of
  lower_empty [] a r m' [] main' aux' is z k e = lower_told [] a r m' [] main' aux' [] is (rw (take-nil (root_count [])) e) refl
  lower_empty [] a r m' (x ∷ xs) main' aux' is z k e = absurd (omega arith)
  lower_empty (y ∷ ys) a r m' rs' main' aux' is z k e = absurd (omega arith)

-- a request by its case, and in time
module _ (s : State) where
  pub answers_to : (q q' : Request) (x : Replied) → q ≡ q' → x ≡ answered s q' → x ≡ answered s q
  answers_to q q' x e h = rw e h

  pub late : (q : Request) → in_time s q ≡ false → bare s FRAME ≡ replied s q
  unfolding replied
  late q h = rw h

  pub timely : (q : Request) (x : Replied) → in_time s q ≡ true → x ≡ answered s q → x ≡ replied s q
  unfolding replied
  timely q x h e = rw h e

  -- and its answer's line
  pub framed_by : (line out out' : List ℕ) (q : Request) (r : Reply) (n : ℕ) (m' rs' main' aux' : List ℕ) → q ≡ request_of line → told r m' rs' main' aux' ≡ replied s q
      → Put out 0 (hexadecimal (reply_bytes r main' aux') ++ (10 ∷ [])) out' n → framed n (lent m' rs' main' aux') out' ≡ frame_call s line out
  unfolding frame_call line_answer answer_line
  framed_by line out out' q r n m' rs' main' aux' is e put =
      let k : n ≡ length (hexadecimal (reply_bytes r main' aux') ++ (10 ∷ [])) = omega (arith, put.behind) in
      rw (← is, ← e, k, put.places)

-- the roots as a part of their words, and that part put back
module _ (rs : List ℕ) (n : ℕ) (is : n ≡ root_count rs) (some : length rs ≡ 0 → ⊥) where
  counted : 1 + n ≤ length rs
  unfolding root_count root_room
  counted = omega (arith, is, some)

  pub roots_part : mid_of 1 (1 + n - 1) rs ≡ roots_of rs
  unfolding roots_of
  roots_part =
      let e : 1 + n - 1 ≡ root_count rs = omega (arith, is) in
      rw e

  pub roots_back : (ids : List ℕ) → length ids ≡ length (mid_of 1 (1 + n - 1) rs) → put_mid 1 (1 + n - 1) rs ids ≡ sets rs 1 ids
  roots_back ids h =
      let e : 1 + n - 1 ≡ n = omega arith in
      let k : length ids ≡ n = h ∙ ap (λ (q : ℕ). length (take q (drop 1 rs))) e ∙ length-take-le n (drop 1 rs) (omega (arith, length-drop 1 rs, counted)) in
      let f : drop (1 + n - 1) (drop 1 rs) ≡ drop (1 + length ids) rs = ap (λ (q : ℕ). drop q (drop 1 rs)) e ∙ drop-drop n 1 rs ∙ sym (ap (λ (q : ℕ). drop (1 + q) rs) k) in
      ap (λ (t : List ℕ). take 1 rs ++ (ids ++ t)) f ∙ sym (append_assoc (take 1 rs) ids (drop (1 + length ids) rs)) ∙ sym (sets-eq ids rs 1 (omega (arith, k, counted)))
