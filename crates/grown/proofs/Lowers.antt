-- A lowering keeps no two registered nodes alike, and its constraints are differences: each substitution sees to it, and there is room for all of them.
-- Assumes nothing.
use Rattle.std.specs.Prelude.{if◌then◌else◌}
use Prim.Native.Nat.{ℕ, zero, suc, ◌≤◌}
use mathlib.Core.Path.{◌≡◌, refl}
use mathlib.Core.Bool.{Bool, true, false}
use mathlib.Core.List.{List, []}
use native.Mathlib.Omega.{arith}
use lib.ListN.{length}
use Rattle.layout.specs.Words.{used, limit}
use Rattle.layout.specs.Outcomes.{refusal}
use Rattle.lowering.specs.Lowering.{Lowering, M, too_high, loop, lowered}
use Rattle.lowering.specs.Refusals.{bad_columns}
use Rattle.lowering.specs.Calls.{tests_then, lower_call, returned}
use Rattle.lowering.proofs.Proper.{Proper, proper_of}
use Rattle.lowering.proofs.OneMore.{OneMore, State, one_more, state_after}
use Rattle.lowering.proofs.Loops.{loop_ran}
use Rattle.lowering.proofs.Fills.{start}
use Rattle.lowering.proofs.Accepts.{First, Then, accepted, first_tests, answer_is, tests, then_tests_lem}
use Rattle.lowering.proofs.Theorem.{lowered_none, state_start}
use Rattle.lowering.proofs.Fits.{Fitted, columns_room, fits_some}
use Rattle.grown.specs.Results.{Unique}
use Rattle.grown.proofs.Substituted.{limit_same, limit_room}
use Rattle.grown.proofs.Advances.{Fits, column_bound, next, Stands, next_stands}

module _ (T mc ac : ℕ) (two : 2 ≤ T) where
  -- all of them: room for the last is room for each
  loop_stands : (k : ℕ) (x : Lowering) → State mc ac x → Fits mc ac x (loop k T mc ac x) → Proper x.circuit → Stands mc ac x → Stands mc ac (loop k T mc ac x)
  unfolding loop
  loop_stands zero x state fits proper v = v
  loop_stands (suc k) x state fits proper v = go (too_high T x.circuit x.roots) refl fits (λ x₁ s₁ f p w. loop_stands k x₁ s₁ f p w)
    where
      go : (b : Bool) → too_high T x.circuit x.roots ≡ b → Fits mc ac x (if b then loop k T mc ac (next T mc ac two x) else x)
          → ((x₁ : Lowering) → State mc ac x₁ → Fits mc ac x₁ (loop k T mc ac x₁) → Proper x₁.circuit → Stands mc ac x₁ → Stands mc ac (loop k T mc ac x₁))
          → Stands mc ac (if b then loop k T mc ac (next T mc ac two x) else x)
      go false h f rest = v
      go true h f rest =
          let one : OneMore T mc ac x (next T mc ac two x) = one_more T mc ac two x state h in
          let s₁ : State mc ac (next T mc ac two x) = state_after T mc ac x (next T mc ac two x) state one in
          let (r, e) = loop_ran T mc ac two k (next T mc ac two x) s₁ in
          let g = r.grows in
          let a = r.more_main in
          let b = r.more_aux in
          let c = f.nodes in
          let n : used (next T mc ac two x).circuit ≤ limit x.circuit = omega arith in
          let l : length (next T mc ac two x).circuit ≡ length x.circuit = one.lies_in (limit_room x.circuit (used (next T mc ac two x).circuit) (omega (arith, state.sound.room)) n) in
          let q = limit_same x.circuit (next T mc ac two x).circuit l in
          let here : Fits mc ac x (next T mc ac two x) = record { nodes = n; main = omega (arith, f.main); aux = omega (arith, f.aux) } in
          rest (next T mc ac two x) s₁ (record { nodes = omega arith; main = f.main; aux = f.aux }) (one.proper (column_bound x (next T mc ac two x) one here) proper) (next_stands T mc ac two x state h here proper v)

start_stands : (mc ac : ℕ) (m roots : List ℕ) → Unique m → Stands mc ac (start m roots)
start_stands mc ac m roots v = record { unique = v; main = λ k l. absurd (omega arith); aux = λ k l. absurd (omega arith) }

lowered_stands : (T mc ac : ℕ) (m roots : List ℕ) → 2 ≤ T → State mc ac (start m roots) → Fitted m roots (lowered T mc ac m roots) → bad_columns mc ac m roots ≡ false → Proper m → Unique m → Stands mc ac (lowered T mc ac m roots)
unfolding lowered
lowered_stands T mc ac m roots two state f columns proper v =
    let (a, b) = columns_room mc ac m roots columns in
    loop_stands T mc ac two (M m roots) (start m roots) state (record { nodes = f.nodes; main = omega (arith, f.main); aux = omega (arith, f.aux) }) proper (start_stands mc ac m roots v)

-- for every lowering that is accepted
pub lower_stands : (target main_count aux_count : ℕ) (lent : Lowering) → (lower_call target main_count aux_count lent).number ≡ 0 → Unique lent.circuit → Stands main_count aux_count (returned (lower_call target main_count aux_count lent))
lower_stands T mc ac lent h v =
    let none : refusal (tests T mc ac lent) ≡ 0 = accepted T mc ac lent h in
    let (f, g) = first_tests T mc ac lent none in
    rw (answer_is T mc ac lent none) (go f (too_high T lent.circuit lent.roots) refl g)
  where
    go : First T lent.circuit lent.roots → (b : Bool) → too_high T lent.circuit lent.roots ≡ b → refusal (if b then tests_then T mc ac lent else []) ≡ 0 → Stands mc ac (lowered T mc ac lent.circuit lent.roots)
    go f false e g = rw (lowered_none T mc ac lent.circuit lent.roots e) (start_stands mc ac lent.circuit lent.roots v)
    go f true e g =
        let t : Then mc ac lent.circuit lent.roots = then_tests_lem T mc ac lent g in
        let proper = proper_of lent.circuit f.circuit in
        let state = state_start T mc ac lent f t in
        lowered_stands T mc ac lent.circuit lent.roots f.target state (fits_some T mc ac lent.circuit lent.roots f.target state e t.room t.columns proper) t.columns proper v

pub lower_unique : (target main_count aux_count : ℕ) (lent : Lowering) → (lower_call target main_count aux_count lent).number ≡ 0 → Unique lent.circuit → Unique (lower_call target main_count aux_count lent).lent.circuit
lower_unique T mc ac lent h v = (lower_stands T mc ac lent h v).unique
