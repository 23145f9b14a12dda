-- LEFT TO RIGHT: an accepted lowering lists its constraints in an order in which their columns can be filled, and alters none that is listed. Assumes nothing.
use Rattle.std.specs.Prelude.{if◌then◌else◌}
use Prim.Native.Nat.{ℕ, zero, suc, ◌+◌, ◌-◌, ◌≤◌, ◌<◌}
use mathlib.Core.Path.{◌≡◌, refl, sym, ◌∙◌, ap}
use mathlib.Core.Logic.{⊎_elim}
use mathlib.Core.Bool.{Bool, true, false}
use mathlib.Core.List.{List, [], ◌∷◌, ◌++◌}
use native.Mathlib.Decide.{dec_le}
use native.Mathlib.Omega.{arith}
use lib.ListN.{length, get_or}
use Rattle.layout.specs.declared.node.Position.{Position}
use Rattle.layout.specs.declared.node.Position.TheVariants.{Main, Aux}
use Rattle.layout.specs.Lists.{In, any}
use Rattle.layout.specs.Words.{used, limit}
use Rattle.layout.specs.Outcomes.{refusal}
use Rattle.layout.proofs.Tests.{is_false}
use Rattle.reading.specs.Readings.{above}
use Rattle.lowering.specs.Lowering.{Lowering, M, too_high, candidates, best, substituted, loop, lowered}
use Rattle.lowering.specs.Refusals.{bad_columns}
use Rattle.lowering.specs.Calls.{tests_then, lower_call, returned}
use Rattle.lowering.proofs.ListLaws.{any_true, in_left, in_right, in_cases}
use Rattle.lowering.proofs.Words.{has_used}
use Rattle.lowering.proofs.Proper.{Proper, proper_of}
use Rattle.lowering.proofs.Chooses.{above_true}
use Rattle.lowering.proofs.OneMore.{Added, OneMore, State, one_more, state_after, taken_more, to_aux, to_main}
use Rattle.lowering.proofs.Loops.{Ran, loop_ran}
use Rattle.lowering.proofs.Fills.{start}
use Rattle.lowering.proofs.Accepts.{First, Then, accepted, columns_start, first_tests, answer_is, tests, then_tests_lem}
use Rattle.lowering.proofs.Theorem.{demand_some, lowered_none, state_start}
use Rattle.lowering.proofs.Fits.{columns_room, fits_some}
use Rattle.grown.specs.Results.{Unique}
use Rattle.grown.specs.Grown.{Grown}
use Rattle.grown.specs.Order.{Unaltered, LeftToRight}
use Rattle.grown.proofs.Substituted.{limit_same, limit_room}
use Rattle.grown.proofs.Advances.{Fits, next}
use Rattle.grown.proofs.Stays.{unaltered_none, unaltered_then}
use Rattle.grown.proofs.Expressions.{difference_shape, uses, base_at, reads_base}
use Rattle.grown.proofs.Keeps.{Holds, place_in, next_unaltered, next-holds}
use Rattle.grown.proofs.Grows.{grown_good}

-- the loop

loop-done : (T mc ac : ℕ) (x : Lowering) → too_high T x.circuit x.roots ≡ false → (k : ℕ) → loop k T mc ac x ≡ x
unfolding loop
loop-done T mc ac x h zero = refl
loop-done T mc ac x h (suc k) = rw h

-- so many steps, and then the others
loop_then : (T mc ac j d : ℕ) (x : Lowering) → loop (j + d) T mc ac x ≡ loop d T mc ac (loop j T mc ac x)
unfolding loop
loop_then T mc ac zero d x = let e : 0 + d ≡ d = omega arith in rw e
loop_then T mc ac (suc j) d x = let e : suc j + d ≡ suc (j + d) = omega arith in rw e (go (too_high T x.circuit x.roots) refl (λ y. loop_then T mc ac j d y))
  where
    go : (b : Bool) → too_high T x.circuit x.roots ≡ b → ((y : Lowering) → loop (j + d) T mc ac y ≡ loop d T mc ac (loop j T mc ac y)) → loop (suc (j + d)) T mc ac x ≡ loop d T mc ac (loop (suc j) T mc ac x)
    go true h f = rw h (f (substituted mc ac x (best (candidates T x.circuit x.roots))))
    go false h f = rw h (sym (loop-done T mc ac x h d))

-- what is listed stays listed
listed_kept : (mc ac : ℕ) (x x₁ : Lowering) {y : Position} {q : ℕ} → Added mc ac x x₁ y q → (z : ℕ) → In z (x.main ++ x.aux) → In z (x₁.main ++ x₁.aux)
listed_kept mc ac x x₁ {q = q} (to_main e a b) z h =
    rw (a, b) (⊎_elim (λ k. in_left z (x.main ++ (q ∷ [])) x.aux (in_left z x.main (q ∷ []) k)) (λ k. in_right z (x.main ++ (q ∷ [])) x.aux k) (in_cases z x.main x.aux h))
listed_kept mc ac x x₁ {q = q} (to_aux e a b) z h =
    rw (a, b) (⊎_elim (λ k. in_left z x.main (x.aux ++ (q ∷ [])) k) (λ k. in_right z x.main (x.aux ++ (q ∷ [])) (in_left z x.aux (q ∷ []) k)) (in_cases z x.main x.aux h))

-- after so many steps the invariant holds, and nothing that was listed is altered
pub record Kept (T mc ac : ℕ) (x x' : Lowering) : Type 0 where
  pub holds : Holds T mc ac x'
  pub unaltered : (q : ℕ) → In q (x.main ++ x.aux) → Unaltered x.circuit x'.circuit q

module _ (T mc ac : ℕ) (two : 2 ≤ T) where
  loop-kept : (k : ℕ) (x : Lowering) → Holds T mc ac x → Fits mc ac x (loop k T mc ac x) → Kept T mc ac x (loop k T mc ac x)
  unfolding loop
  loop-kept zero x h fits = record { holds = h; unaltered = λ q l. unaltered_none x.circuit q }
  loop-kept (suc k) x h fits = go (too_high T x.circuit x.roots) refl fits (λ y g f. loop-kept k y g f)
    where
      go : (b : Bool) → too_high T x.circuit x.roots ≡ b → Fits mc ac x (if b then loop k T mc ac (next T mc ac two x) else x)
          → ((y : Lowering) → Holds T mc ac y → Fits mc ac y (loop k T mc ac y) → Kept T mc ac y (loop k T mc ac y))
          → Kept T mc ac x (if b then loop k T mc ac (next T mc ac two x) else x)
      go false e f rest = record { holds = h; unaltered = λ q l. unaltered_none x.circuit q }
      go true e f rest =
          let one : OneMore T mc ac x (next T mc ac two x) = one_more T mc ac two x h.state e in
          let s₁ : State mc ac (next T mc ac two x) = state_after T mc ac x (next T mc ac two x) h.state one in
          let (r, _) = loop_ran T mc ac two k (next T mc ac two x) s₁ in
          let g = r.grows in
          let a = r.more_main in
          let b = r.more_aux in
          let c = f.nodes in
          let n : used (next T mc ac two x).circuit ≤ limit x.circuit = omega arith in
          let l : length (next T mc ac two x).circuit ≡ length x.circuit = one.lies_in (limit_room x.circuit (used (next T mc ac two x).circuit) (omega (arith, h.state.sound.room)) n) in
          let q = limit_same x.circuit (next T mc ac two x).circuit l in
          let here : Fits mc ac x (next T mc ac two x) = record { nodes = n; main = omega (arith, f.main); aux = omega (arith, f.aux) } in
          let later = rest (next T mc ac two x) (next-holds T mc ac two x h e here) (record { nodes = omega arith; main = f.main; aux = f.aux }) in
          record {
            holds = later.holds;
            unaltered = λ z d. unaltered_then x.circuit (next T mc ac two x).circuit (loop k T mc ac (next T mc ac two x)).circuit z (next_unaltered T mc ac two x h e here z d) (later.unaltered z (listed_kept mc ac x (next T mc ac two x) one.added z d));
          }

start-holds : (T mc ac : ℕ) (m roots : List ℕ) → State mc ac (start m roots) → bad_columns mc ac m roots ≡ false → Proper m → Unique m → Holds T mc ac (start m roots)
start-holds T mc ac m roots state columns proper v =
    record {
      state = state;
      proper = proper;
      stands = record { unique = v; main = λ k l. absurd (omega arith); aux = λ k l. absurd (omega arith) };
      next = λ i q n k. taken_more (mc + 0) (ac + 0) mc ac (omega arith) (omega arith) q (columns_start mc ac m roots columns i q k);
      has = λ q k. absurd k;
      quiet = λ q k. absurd k;
      main = λ k l. absurd (omega arith);
      aux = λ k l. absurd (omega arith);
    }

-- from the start of an accepted lowering, where some root is too high
module _ (T mc ac : ℕ) (m roots : List ℕ) (two : 2 ≤ T) (begin : Holds T mc ac (start m roots)) (high : too_high T m roots ≡ true) (all-fits : Fits mc ac (start m roots) (lowered T mc ac m roots)) where
  -- after k steps
  abbrev at : ℕ → Lowering
  at k = loop k T mc ac (start m roots)

  ran : (k : ℕ) → Ran T mc ac (start m roots) (at k)
  ran k = (loop_ran T mc ac two k (start m roots) begin.state).0

  goes_on : (j k : ℕ) → j ≤ k → at k ≡ loop (k - j) T mc ac (at j)
  goes_on j k h = let e : k ≡ j + (k - j) = omega arith in ap at e ∙ loop_then T mc ac j (k - j) (start m roots)

  ran_on : (j k : ℕ) → j ≤ k → Ran T mc ac (at j) (at k)
  ran_on j k h = rw (goes_on j k h) (loop_ran T mc ac two (k - j) (at j) (ran j).state).0

  lowered_is : lowered T mc ac m roots ≡ at (M m roots)
  unfolding lowered
  lowered_is = refl

  -- no root is too high at the end
  ended : too_high T (at (M m roots)).circuit (at (M m roots)).roots ≡ false
  unfolding too_high
  ended = is_false (any (above T (at (M m roots)).circuit) (at (M m roots)).roots) (λ h.
      let (r, a, b) = any_true (above T (at (M m roots)).circuit) (at (M m roots)).roots h in
      let d = rw lowered_is at (demand_some T mc ac m roots two begin.state high) in
      omega (arith, above_true T (at (M m roots)).circuit r b, d.degrees r (in_left r (at (M m roots)).roots ((at (M m roots)).main ++ (at (M m roots)).aux) a)))

  ends_at : (k : ℕ) → M m roots ≤ k → at k ≡ at (M m roots)
  ends_at k h = goes_on (M m roots) k h ∙ loop-done T mc ac (at (M m roots)) ended (k - M m roots)

  -- there is room for any number of steps
  fits_at : (k : ℕ) → Fits mc ac (start m roots) (at k)
  fits_at k = go (dec_le k (M m roots))
    where
      top : Fits mc ac (start m roots) (at (M m roots))
      top = rw lowered_is at all-fits

      go : Dec (k ≤ M m roots) → Fits mc ac (start m roots) (at k)
      go (yes h) = let r = ran_on k (M m roots) h in record { nodes = omega (arith, r.grows, top.nodes); main = omega (arith, r.more_main, top.main); aux = omega (arith, r.more_aux, top.aux) }
      go (no h) = rw (ends_at k (omega arith)) top

  fits_on : (j k : ℕ) → j ≤ k → Fits mc ac (at j) (loop (k - j) T mc ac (at j))
  fits_on j k h =
      let f = fits_at k in
      let g = fits_at j in
      let n = g.nodes in
      let l : length (at j).circuit ≡ length m = (ran j).lies_in (limit_room m (used (at j).circuit) (omega (arith, begin.state.sound.room)) n) in
      rw (sym (goes_on j k h)) (record { nodes = omega (arith, limit_same m (at j).circuit l, f.nodes); main = f.main; aux = f.aux })

  kept_at : (k : ℕ) → Kept T mc ac (start m roots) (at k)
  kept_at k = loop-kept T mc ac two k (start m roots) begin (fits_at k)

  listed_on : (j k : ℕ) → j ≤ k → (q : ℕ) → In q ((at j).main ++ (at j).aux) → Unaltered (at j).circuit (at k).circuit q
  listed_on j k h q l = rw (goes_on j k h) ((loop-kept T mc ac two (k - j) (at j) (kept_at j).holds (fits_on j k h)).unaltered q l)

  ordered : LeftToRight T mc ac m roots (at (M m roots))
  ordered =
      let h : Holds T mc ac (at (M m roots)) = (kept_at (M m roots)).holds in
      let x : Lowering = at (M m roots) in
      record {
        main = λ k l d.
            let c = h.main k l in
            let (t, v) = h.has (get_or (at (M m roots)).main k 0) (in_left (get_or (at (M m roots)).main k 0) (at (M m roots)).main (at (M m roots)).aux (place_in (at (M m roots)).main k l)) in
            let w = difference_shape (at (M m roots)).circuit (Main (mc + k)) (mc + k) (ac + length (at (M m roots)).aux) (get_or (at (M m roots)).main k 0) h.state.sound (has_used (at (M m roots)).circuit t (get_or (at (M m roots)).main k 0) v) c d in
            (uses (at (M m roots)).circuit (mc + k) ac mc ac c.u d.chosen h.next w (reads_base (mc + k) (ac + length (at (M m roots)).aux) ac c.u (c.base refl) c.reads), base_at (at (M m roots)).circuit c.u d.chosen w (c.base refl));
        aux = λ k l d.
            let c = h.aux k l in
            let (t, v) = h.has (get_or (at (M m roots)).aux k 0) (in_right (get_or (at (M m roots)).aux k 0) (at (M m roots)).main (at (M m roots)).aux (place_in (at (M m roots)).aux k l)) in
            let w = difference_shape (at (M m roots)).circuit (Aux (ac + k)) (mc + length (at (M m roots)).main) (ac + k) (get_or (at (M m roots)).aux k 0) h.state.sound (has_used (at (M m roots)).circuit t (get_or (at (M m roots)).aux k 0) v) c d in
            uses (at (M m roots)).circuit (mc + length (at (M m roots)).main) (ac + k) mc ac c.u d.chosen h.next w c.reads;
        ends = ends_at;
        listed = listed_on;
        main_place = λ j k i h l. (ran_on j k h).first_main i l;
        aux_place = λ j k i h l. (ran_on j k h).first_aux i l;
      }

  pub lowered_ordered : LeftToRight T mc ac m roots (lowered T mc ac m roots)
  lowered_ordered = rw lowered_is ordered

-- nothing to do
ordered_none : (T mc ac : ℕ) (m roots : List ℕ) → too_high T m roots ≡ false → LeftToRight T mc ac m roots (start m roots)
ordered_none T mc ac m roots h =
    record {
      main = λ k l. absurd (omega arith);
      aux = λ k l. absurd (omega arith);
      ends = λ k l. loop-done T mc ac (start m roots) h k;
      listed = λ j k l q z. absurd (rw (loop-done T mc ac (start m roots) h j) at z);
      main_place = λ j k i l z. absurd (let w : i < 0 = rw (loop-done T mc ac (start m roots) h j) at z in omega arith);
      aux_place = λ j k i l z. absurd (let w : i < 0 = rw (loop-done T mc ac (start m roots) h j) at z in omega arith);
    }

-- REQUEST 10, for every accepted lowering of a circuit without two registered nodes alike
pub unique_left_to_right : (target main_count aux_count : ℕ) (lent : Lowering) → Unique lent.circuit → (lower_call target main_count aux_count lent).number ≡ 0
    → LeftToRight target main_count aux_count lent.circuit lent.roots (returned (lower_call target main_count aux_count lent))
unique_left_to_right T mc ac lent v h =
    let none : refusal (tests T mc ac lent) ≡ 0 = accepted T mc ac lent h in
    let (f, g) = first_tests T mc ac lent none in
    rw (answer_is T mc ac lent none) (go f (too_high T lent.circuit lent.roots) refl g)
  where
    go : First T lent.circuit lent.roots → (b : Bool) → too_high T lent.circuit lent.roots ≡ b → refusal (if b then tests_then T mc ac lent else []) ≡ 0 → LeftToRight T mc ac lent.circuit lent.roots (lowered T mc ac lent.circuit lent.roots)
    go f false e g = rw (lowered_none T mc ac lent.circuit lent.roots e) (ordered_none T mc ac lent.circuit lent.roots e)
    go f true e g =
        let t : Then mc ac lent.circuit lent.roots = then_tests_lem T mc ac lent g in
        let proper = proper_of lent.circuit f.circuit in
        let state = state_start T mc ac lent f t in
        let fit = fits_some T mc ac lent.circuit lent.roots f.target state e t.room t.columns proper in
        let (a, b) = columns_room mc ac lent.circuit lent.roots t.columns in
        lowered_ordered T mc ac lent.circuit lent.roots f.target (start-holds T mc ac lent.circuit lent.roots state t.columns proper v) e (record { nodes = fit.nodes; main = omega (arith, fit.main); aux = omega (arith, fit.aux) })

-- and so of a grown circuit
pub left-to-right : (target main_count aux_count : ℕ) (lent : Lowering) → Grown lent.circuit → (lower_call target main_count aux_count lent).number ≡ 0
    → LeftToRight target main_count aux_count lent.circuit lent.roots (returned (lower_call target main_count aux_count lent))
left-to-right T mc ac lent g h = unique_left_to_right T mc ac lent (grown_good lent.circuit g).unique h
