-- An accepted lowering stays in what is lent, so 3·M free places are enough; and the words are a circuit again. Assumes nothing.
use Rattle.std.specs.Prelude.{if◌then◌else◌}
use Prim.Native.Nat.{ℕ, suc, ◌+◌, ◌*◌, ◌-◌, ◌≤◌, ◌<◌}
use mathlib.Core.Path.{◌≡◌, refl, ap}
use mathlib.Core.Bool.{Bool, true, false, ◌||◌}
use mathlib.Core.List.{List, [], ◌∷◌}
use native.Mathlib.Omega.{arith}
use lib.ListN.{length, drop, length-append, length-drop}
use lib.Dec.{ltb}
use borrow.Author.Tests.{ltb-false}
use Rattle.layout.specs.Lists.{up_to, any, written}
use Rattle.layout.specs.Words.{used, limit, expression_at}
use Rattle.layout.specs.NotCircuit.{not_circuit}
use Rattle.layout.specs.Outcomes.{refusal}
use Rattle.lowering.specs.Lowering.{Lowering, M, too_high, loop, lowered}
use Rattle.lowering.specs.Refusals.{input_at_or_above, bad_columns, full_lowering}
use Rattle.lowering.specs.Calls.{tests_then, lower_call}
use Rattle.lowering.specs.Demand.{InPlace}
use Rattle.lowering.proofs.Steps.{Led}
use Rattle.lowering.proofs.ListLaws.{or-false}
use Rattle.lowering.proofs.Bound.{Pairs, as_run}
use Rattle.lowering.proofs.Words.{parts}
use Rattle.lowering.proofs.Proper.{Proper, proper_of, circuit_of}
use Rattle.lowering.proofs.OneMore.{State}
use Rattle.lowering.proofs.Loops.{Ran, loop_ran}
use Rattle.lowering.proofs.Fills.{start}
use Rattle.lowering.proofs.Accepts.{First, Then, accepted, first_tests, lent_is, list_tests, tests, then_tests_lem}
use Rattle.lowering.proofs.Theorem.{demand_some, lowered_none, state_start}

-- the places lie in the lent words
limit_inside : (m : List ℕ) → 0 < limit m → 2 + 6 * limit m ≤ length m
unfolding limit
limit_inside m h = omega arith

-- WHAT FITS: an accepted lowering stays in what is lent, so 3·M free places are enough
pairs_length : (R : ℕ → ℕ → Type 0) (xs ys : List ℕ) → Pairs R xs ys → length ys ≡ length xs
pairs_length R [] [] h = refl
pairs_length R [] (y ∷ ys) h = absurd h
pairs_length R (x ∷ xs) [] h = absurd h
pairs_length R (x ∷ xs) (y ∷ ys) (h, hs) = ap suc (pairs_length R xs ys hs)

written_length : (a l : List ℕ) → length a ≤ length l → length (written a l) ≡ length l
unfolding written
written_length a l h = omega (arith, length-append a (drop (length a) l), length-drop (length a) l)

pub record Fitted (m rs : List ℕ) (x : Lowering) : Type 0 where
  pub nodes : used x.circuit ≤ limit m
  pub circuit : length x.circuit ≡ length m
  pub roots : length x.roots ≡ length rs
  pub main : length x.main ≤ M m rs
  pub aux : length x.aux ≤ M m rs
  pub valid : not_circuit x.circuit ≡ false

limit_same : (m m' : List ℕ) → length m' ≡ length m → limit m' ≡ limit m
unfolding limit
limit_same m m' h = rw h

-- the columns up to M more are in bounds
pub columns_room : (mc ac : ℕ) (m roots : List ℕ) → bad_columns mc ac m roots ≡ false → (mc + M m roots ≤ 65536) × (ac + M m roots ≤ 65536)
unfolding bad_columns
columns_room mc ac m roots h =
    let (a, b) = or-false (any (λ i. input_at_or_above mc ac (expression_at m i)) (up_to (used m))) (ltb 65536 (mc + M m roots) || ltb 65536 (ac + M m roots)) h in
    let (c, d) = or-false (ltb 65536 (mc + M m roots)) (ltb 65536 (ac + M m roots)) b in
    (ltb-false 65536 (mc + M m roots) c, ltb-false 65536 (ac + M m roots) d)

pub fits_some : (T mc ac : ℕ) (m roots : List ℕ) → 2 ≤ T → State mc ac (start m roots) → too_high T m roots ≡ true → full_lowering m roots ≡ false → bad_columns mc ac m roots ≡ false → Proper m → Fitted m roots (lowered T mc ac m roots)
unfolding lowered full_lowering
fits_some T mc ac m roots two begin high full columns proper =
    go (loop (M m roots) T mc ac (start m roots)) (loop_ran T mc ac two (M m roots) (start m roots) begin).0 ((demand_some T mc ac m roots two begin high).fewer high)
  where
    free : 3 * M m roots ≤ limit m - used m
    free = ltb-false (limit m - used m) (3 * M m roots) full

    go : (x : Lowering) → Ran T mc ac (start m roots) x → length x.main + length x.aux < M m roots → Fitted m roots x
    go x r few =
        let k : used x.circuit ≤ limit m = omega (arith, free, r.nodes, r.steps) in
        let l : 2 + 6 * limit m ≤ length m = limit_inside m (omega (arith, free)) in
        let (run, led) = as_run r.low in
        let n : length x.circuit ≡ length m = r.lies_in (omega arith) in
        let (cm, ca) = columns_room mc ac m roots columns in
        record {
          nodes = k;
          circuit = n;
          roots = pairs_length (λ i j. Led run i j) roots x.roots led;
          main = omega arith;
          aux = omega arith;
          valid = circuit_of x.circuit r.state.sound (r.proper (omega arith) (omega arith) proper) (rw (limit_same m x.circuit n) k);
        }

-- for every lowering that is accepted, of any lent words
pub in_place : (target main_count aux_count : ℕ) (lent : Lowering) → (lower_call target main_count aux_count lent).number ≡ 0 → InPlace lent (lower_call target main_count aux_count lent).lent
in_place T mc ac lent h =
    let none : refusal (tests T mc ac lent) ≡ 0 = accepted T mc ac lent h in
    let (f, g) = first_tests T mc ac lent none in
    rw (lent_is T mc ac lent none) (go f (too_high T lent.circuit lent.roots) refl g)
  where
    after : Lowering → Lowering
    after x = record { circuit = x.circuit; roots = x.roots; main = written x.main lent.main; aux = written x.aux lent.aux }

    go : First T lent.circuit lent.roots → (b : Bool) → too_high T lent.circuit lent.roots ≡ b → refusal (if b then tests_then T mc ac lent else []) ≡ 0 → InPlace lent (after (lowered T mc ac lent.circuit lent.roots))
    go f false e g =
        rw (lowered_none T mc ac lent.circuit lent.roots e)
        (record {
          nodes = (parts lent.circuit f.circuit).inside;
          circuit = refl;
          roots = refl;
          main = written_length [] lent.main (omega arith);
          aux = written_length [] lent.aux (omega arith);
          valid = f.circuit;
        })
    go f true e g =
        let t : Then mc ac lent.circuit lent.roots = then_tests_lem T mc ac lent g in
        let (lm, la) = list_tests T mc ac lent g in
        let x : Lowering = lowered T mc ac lent.circuit lent.roots in
        let d : Fitted lent.circuit lent.roots (lowered T mc ac lent.circuit lent.roots) = fits_some T mc ac lent.circuit lent.roots f.target (state_start T mc ac lent f t) e t.room t.columns (proper_of lent.circuit f.circuit) in
        record {
          nodes = d.nodes;
          circuit = d.circuit;
          roots = d.roots;
          main = written_length x.main lent.main (omega (arith, d.main));
          aux = written_length x.aux lent.aux (omega (arith, d.aux));
          valid = d.valid;
        }
