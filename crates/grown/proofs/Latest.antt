-- The lists of the latest lowering are filled, from their order: NOT_LOWERED never comes, and the values are demand 3's one choice. Assumes nothing.
use Rattle.std.specs.Prelude.{Some}
use Prim.Native.Nat.{ℕ, zero, suc, ◌+◌, ◌*◌, ◌/◌, ◌≤◌, ◌<◌}
use mathlib.Core.Path.{◌≡◌, refl, sym, ap, ◌∙◌, ap₂}
use mathlib.Core.Logic.{inl, inr}
use mathlib.Core.Bool.{Bool, true, false}
use mathlib.Core.List.{List, [], ◌∷◌, ◌++◌}
use native.Mathlib.Omega.{arith}
use lib.ListN.{length, get_or, take, drop, replicate, length-take, length-drop, length-replicate, take-append-drop}
use lib.Seq.{sets, length-sets}
use lib.Dec.{leb}
use borrow.Author.Tests.{leb-false, lt-leb}
use Rattle.arithmetic.specs.declared.Triple.{Triple}
use Rattle.arithmetic.specs.Base.{p}
use Rattle.arithmetic.specs.Extension.{lift}
use Rattle.layout.specs.declared.node.Position.{Position}
use Rattle.layout.specs.declared.node.Position.TheVariants.{Main, Aux, NextMain, NextAux}
use Rattle.layout.specs.declared.node.Expression.TheVariants.{Input}
use Rattle.layout.specs.Lists.{In, any}
use Rattle.layout.specs.Words.{row_kind, used, is_next}
use Rattle.layout.specs.Tree.{input_leaf, tree}
use Rattle.layout.specs.NotCircuit.{not_circuit, bad_id, bad_word}
use Rattle.layout.specs.Outcomes.{refusal}
use Rattle.layout.proofs.Refusals.{refusal_next}
use Rattle.layout.proofs.Tests.{or-false}
use Rattle.reading.specs.Readings.{Assignment, is_base, input_value, value}
use Rattle.reading.specs.Calls.{triple_at, next_row, assigned}
use Rattle.lowering.specs.Lowering.{Lowering}
use Rattle.lowering.specs.Demand.{values_of}
use Rattle.lowering.specs.Calls.{lower_call, returned}
use Rattle.lowering.proofs.Shape.{leaf_e}
use Rattle.lowering.proofs.Words.{look, look_lt, says, valid_sound}
use Rattle.lowering.proofs.ListLaws.{any_false, in_left, in_right}
use Rattle.lowering.proofs.Proper.{none_false}
use Rattle.lowering.proofs.Tables.{assigned_cells}
use Rattle.filling.specs.Constraints.{expression_of}
use Rattle.filling.specs.Refusals.{bad_rows, mains_wrong, not_lowered}
use Rattle.filling.specs.Calls.{row_cleared, fill_outcome, fill_call, fill_rows_call}
use Rattle.filling.specs.Promise.{new_main, new_aux, Solves}
use Rattle.filling.proofs.Values.{any-split, dual, fair}
use Rattle.filling.proofs.Settled.{RightMain, RightAux}
use Rattle.filling.proofs.Tables.{sets_next, any_join}
use Rattle.filling.proofs.Accepts.{Passed, passed, outcome_number, main_room, main_next, aux_room, aux_next, zero_value}
use Rattle.filling.proofs.Solves.{sets_over, solves}
use Rattle.grown.specs.Grown.{Grown}
use Rattle.grown.specs.Promise.{NewValues, with_new, ExactlyOne, Promise}
use Rattle.grown.specs.Order.{LeftToRight}
use Rattle.grown.proofs.Ordered.{left-to-right}
use Rattle.grown.specs.Fills.{Since, given, given_rows, FillsLatest}
use Rattle.grown.proofs.Agrees.{Agree, value_agrees}
use Rattle.grown.proofs.Stores.{triples, triples_length, triples_in, triples_at, stored_main, stored_aux}
use Rattle.grown.proofs.Remains.{Remains, remains}
use Rattle.grown.proofs.Promised.{promised}
use Rattle.grown.proofs.Grows.{grown_good}
use Rattle.grown.proofs.Since.{Kept, since_grown, since_kept}
use Rattle.grown.proofs.Filled.{map_in}
use Rattle.grown.proofs.Lowered.{gives, expression_kept, uses-reads, mains_right, auxs_right}

-- a part of a table without a word at or above p has none
part_low : (n c : ℕ) (l : List ℕ) → any bad_word l ≡ false → any bad_word (take n (drop c l)) ≡ false
part_low n c l h =
    let a : any bad_word (take c l ++ drop c l) ≡ false = rw (take-append-drop c l) h in
    let b : any bad_word (take n (drop c l) ++ drop n (drop c l)) ≡ false = rw (take-append-drop n (drop c l)) (any-split bad_word (take c l) (drop c l) a).1 in
    (any-split bad_word (take n (drop c l)) (drop n (drop c l)) b).0

part_length : (n c : ℕ) (l : List ℕ) → c + n ≤ length l → length (take n (drop c l)) ≡ n
part_length n c l h = omega (arith, length-take n (drop c l), length-drop c l)

-- a test that fails at the end of the list changes nothing
drop_last : (a b c : Bool) → c ≡ false → refusal ((15, a) ∷ (5, b) ∷ (17, c) ∷ []) ≡ refusal ((15, a) ∷ (5, b) ∷ [])
unfolding refusal
drop_last a b c h = rw h

module _ (T mc ac : ℕ) (lent : Lowering) (g : Grown lent.circuit) (h : (lower_call T mc ac lent).number ≡ 0) (after : Lowering) (is-after : after ≡ returned (lower_call T mc ac lent))
    (order : LeftToRight T mc ac lent.circuit lent.roots after) (m' : List ℕ) (since : Since after.circuit m') where
  promise : Promise T mc ac lent.circuit lent.roots after
  promise = rw is-after (promised T mc ac lent g h)

  left : Remains mc ac lent.circuit after
  left = rw is-after (remains T mc ac lent h)

  grown' : Grown m'
  grown' = since_grown after.circuit m' promise.grown-again since

  kept : Kept after.circuit m'
  kept = since_kept after.circuit m' promise.grown-again since

  valid : not_circuit after.circuit ≡ false
  valid = (grown_good after.circuit promise.grown-again).circuit

  valid' : not_circuit m' ≡ false
  valid' = (grown_good m' grown').circuit

  -- a place of a list is a listed node
  place_in : (qs : List ℕ) (k : ℕ) → k < length qs → In (get_or qs k 0) qs
  place_in [] k l = absurd (omega arith)
  place_in (q ∷ qs) zero l = inl refl
  place_in (q ∷ qs) (suc k) l = inr (place_in qs k (omega arith))

  main_right : (k : ℕ) → k < length after.main → RightMain (mc + k) ac m' (expression_of m' (Main (mc + k)) (get_or after.main k 0))
  main_right k l =
      let q : ℕ = get_or after.main k 0 in
      let here : q < used after.circuit = left.constraints q (in_left q after.main after.aux (place_in after.main k l)) in
      let give = gives after.circuit valid (Main (mc + k)) q here (promise.main_columns k l) in
      let (uses, base) = order.main k l give.difference in
      record {
        e = give.difference.chosen;
        is = expression_kept after.circuit m' valid kept (Main (mc + k)) q here ∙ give.is;
        reads = uses-reads after.circuit m' valid kept give.difference.chosen (mc + k) ac give.here uses;
        base = ap is_base (kept.trees give.difference.chosen give.here) ∙ base;
      }

  aux_right : (k : ℕ) → k < length after.aux → RightAux (mc + length after.main) (ac + k) m' (expression_of m' (Aux (ac + k)) (get_or after.aux k 0))
  aux_right k l =
      let q : ℕ = get_or after.aux k 0 in
      let here : q < used after.circuit = left.constraints q (in_right q after.main after.aux (place_in after.aux k l)) in
      let give = gives after.circuit valid (Aux (ac + k)) q here (promise.aux_columns k l) in
      record {
        e = give.difference.chosen;
        is = expression_kept after.circuit m' valid kept (Aux (ac + k)) q here ∙ give.is;
        reads = uses-reads after.circuit m' valid kept give.difference.chosen (mc + length after.main) (ac + k) give.here (order.aux k l give.difference);
      }

  -- so NOT_LOWERED never comes
  lowered : not_lowered mc ac m' after.main after.aux ≡ false
  unfolding not_lowered
  lowered = or-false (mains_wrong ac m' mc after.main) _ (mains_right ac m' after.main mc main_right) (auxs_right (mc + length after.main) m' after.aux ac aux_right)

  ids : bad_id m' (after.main ++ after.aux) ≡ false
  unfolding bad_id
  ids = none_false (leb (used m')) (after.main ++ after.aux) (λ q k. let a = left.constraints q k in let b = kept.more in lt-leb (used m') q (omega arith))

  module _ (main aux challenges : List ℕ) where
    number : (fill_call mc ac m' after.main after.aux challenges main aux).number
        ≡ refusal ((15, bad_rows (row_kind m') mc ac m' after.main after.aux main aux challenges) ∷ (5, any bad_word ((given mc ac lent.circuit lent.roots after m' main aux challenges).0 ++ (given mc ac lent.circuit lent.roots after m' main aux challenges).1 ++ challenges)) ∷ [])
    unfolding fill_call fill_outcome
    number =
        outcome_number _ tt _ tt (main, aux)
        ∙ refusal_next 1 (not_circuit m') _ valid'
        ∙ refusal_next 2 (bad_id m' (after.main ++ after.aux)) _ ids
        ∙ drop_last _ _ (not_lowered mc ac m' after.main after.aux) lowered

    rows_number : (rows : ℕ) → (fill_rows_call mc ac m' after.main after.aux challenges rows main aux).number
        ≡ refusal ((15, bad_rows rows mc ac m' after.main after.aux main aux challenges) ∷ (5, any bad_word ((given_rows mc ac lent.circuit lent.roots after m' main aux challenges rows).0 ++ (given_rows mc ac lent.circuit lent.roots after m' main aux challenges rows).1 ++ challenges)) ∷ [])
    unfolding fill_rows_call fill_outcome
    rows_number rows =
        outcome_number _ tt _ tt (main, aux)
        ∙ refusal_next 1 (not_circuit m') _ valid'
        ∙ refusal_next 2 (bad_id m' (after.main ++ after.aux)) _ ids
        ∙ drop_last _ _ (not_lowered mc ac m' after.main after.aux) lowered

    -- where it is accepted
    module _ (accepted : (fill_call mc ac m' after.main after.aux challenges main aux).number ≡ 0) where
      ok : Passed mc ac m' after.main after.aux challenges main aux
      ok = passed mc ac m' after.main after.aux challenges main aux accepted

      main' : List ℕ
      main' = (fill_call mc ac m' after.main after.aux challenges main aux).lent.0

      aux' : List ℕ
      aux' = (fill_call mc ac m' after.main after.aux challenges main aux).lent.1

      sol : Solves mc ac m' after.main after.aux challenges main aux main' aux'
      unfolding main' aux'
      sol = solves mc ac m' after.main after.aux challenges main aux accepted

      new : List ℕ
      new = new_main mc (length after.main) main'

      new_a : List ℕ
      new_a = new_aux ac (length after.aux) aux'

      cleared_main : List ℕ
      cleared_main = sets main mc (replicate (length after.main) 0)

      cleared_aux : List ℕ
      cleared_aux = sets aux (3 * ac) (replicate (3 * length after.aux) 0)

      room_main : mc + length after.main ≤ length main
      room_main = main_room mc ac m' after.main after.aux challenges main aux ok

      room_aux : 3 * ac + 3 * length after.aux ≤ length aux
      room_aux = aux_room mc ac m' after.main after.aux challenges main aux ok

      next_main : row_kind m' ≡ 2 → mc + length after.main ≤ length main / 2
      next_main = main_next mc ac m' after.main after.aux challenges main aux ok

      next_aux : row_kind m' ≡ 2 → 3 * ac + 3 * length after.aux ≤ length aux / 2
      next_aux = aux_next mc ac m' after.main after.aux challenges main aux ok

      same_main : length main' ≡ length main
      same_main = ap length sol.main_kept ∙ length-sets main mc (new_main mc (length after.main) main')

      same_aux : length aux' ≡ length aux
      same_aux = ap length sol.aux_kept ∙ length-sets aux (3 * ac) (new_aux ac (length after.aux) aux')

      new_length : length new ≡ length after.main
      unfolding new
      new_length = part_length (length after.main) mc main' (omega (arith, same_main, room_main))

      new_a_length : length new_a ≡ 3 * length after.aux
      unfolding new_a
      new_a_length = part_length (3 * length after.aux) (3 * ac) aux' (omega (arith, same_aux, room_aux))

      -- the filled tables are the cleared ones with the new words
      over_main : main' ≡ sets cleared_main mc new
      unfolding cleared_main new
      over_main = sol.main_kept ∙ sym (sets_over (replicate (length after.main) 0) (new_main mc (length after.main) main') main mc (length-replicate (length after.main) 0 ∙ sym new_length) (omega (arith, new_length, room_main)))

      over_aux_lem : aux' ≡ sets cleared_aux (3 * ac) new_a
      unfolding cleared_aux new_a
      over_aux_lem =
          sol.aux_kept
          ∙ sym (sets_over (replicate (3 * length after.aux) 0) (new_aux ac (length after.aux) aux') aux (3 * ac) (length-replicate (3 * length after.aux) 0 ∙ sym new_a_length) (omega (arith, new_a_length, room_aux)))

      length_cleared : (length cleared_main ≡ length main) × (length cleared_aux ≡ length aux)
      unfolding cleared_main cleared_aux
      length_cleared = (length-sets main mc (replicate (length after.main) 0), length-sets aux (3 * ac) (replicate (3 * length after.aux) 0))

      said : Assignment
      said = assigned main' aux' challenges

      meant : Assignment
      meant = with_new mc ac (assigned cleared_main cleared_aux challenges) new (triples new_a)

      next_main_lem : row_kind m' ≡ 2 → next_row main' ≡ next_row cleared_main
      next_main_lem e =
          let r = next_main e in
          let n = new_length in
          let l = length_cleared.0 in
          ap next_row over_main ∙ sets_next new cleared_main mc (omega arith)

      next_aux_lem : row_kind m' ≡ 2 → next_row aux' ≡ next_row cleared_aux
      next_aux_lem e =
          let r = next_aux e in
          let n = new_a_length in
          let l = length_cleared.1 in
          ap next_row over_aux_lem ∙ sets_next new_a cleared_aux (3 * ac) (omega arith)

      -- they say what the choice means, wherever a node reads
      agrees : Agree (look m') said meant
      unfolding said meant assigned
      agrees = record { inputs = at; challenges = λ k. refl }
        where
          two : (n : ℕ) (q : Position) → is_next q ≡ true → look m' n ≡ Some (leaf_e (input_leaf q)) → row_kind m' ≡ 2
          two n q e k = dual m' valid' q e (fair m' valid' n (look_lt m' n (leaf_e (input_leaf q)) k) (Input q) (says m' n (Input q) k))

          at : (n : ℕ) (q : Position) → look m' n ≡ Some (leaf_e (input_leaf q)) → input_value said q ≡ input_value meant q
          at n (Main c) k = ap lift (ap (λ (t : List ℕ). get_or t c 0) over_main ∙ stored_main cleared_main new mc (inr (omega (arith, new_length, length_cleared.0, room_main))) c)
          at n (Aux c) k = ap (λ (t : List ℕ). triple_at t c) over_aux_lem ∙ stored_aux cleared_aux new_a ac (length after.aux) new_a_length (inr (omega (arith, length_cleared.1, room_aux))) c
          at n (NextMain c) k = ap (λ (t : List ℕ). lift (get_or t c 0)) (next_main_lem (two n (NextMain c) refl k))
          at n (NextAux c) k = ap (λ (t : List ℕ). triple_at t c) (next_aux_lem (two n (NextAux c) refl k))

      zero_said : (q : ℕ) → In q (after.main ++ after.aux) → value said (tree m' q) ≡ lift 0
      unfolding said
      zero_said q k = (zero_value mc ac m' after.main after.aux challenges main aux ok main' aux' same_main same_aux q k (sol.zeros q k)).1

      zero_meant : (q : ℕ) → In q (after.main ++ after.aux) → value meant (tree after.circuit q) ≡ lift 0
      zero_meant q k =
          let here = left.constraints q k in
          let more = kept.more in
          ap (value meant) (sym (kept.trees q here)) ∙ sym (value_agrees m' (valid_sound m' valid') said meant agrees q (omega arith)) ∙ zero_said q k

      -- the new words as a choice
      front_words : any bad_word (main' ++ aux') ≡ false
      front_words = (any-split bad_word (main' ++ aux') challenges sol.words).0

      choice : NewValues (length after.main) (length after.aux)
      unfolding new new_a
      choice =
          record {
            main = new;
            aux = triples new_a;
            main_count = new_length;
            aux_count = triples_length (length after.aux) new_a new_a_length;
            base = λ w k. leb-false p w (any_false bad_word new (part_low (length after.main) mc main' (any-split bad_word main' aux' front_words).0) w k);
            extension = λ x k.
                let (a, b, c) = triples_in (λ w. w < p) new_a (λ w i. leb-false p w (any_false bad_word new_a (part_low (3 * length after.aux) (3 * ac) aux' (any-split bad_word main' aux' front_words).1) w i)) x k in
                record { below0 = a; below1 = b; below2 = c };
          }

      module _ (one : ExactlyOne mc ac lent.circuit lent.roots after (assigned cleared_main cleared_aux challenges)) where
        chosen : (new ≡ one.values.main) × (triples new_a ≡ one.values.aux)
        unfolding choice meant
        chosen = one.only choice zero_meant

        -- what the filled tables say of the lowered roots
        roots_keep : values_of said m' after.roots ≡ values_of (assigned cleared_main cleared_aux challenges) lent.circuit lent.roots
        unfolding meant
        roots_keep =
            map_in (λ i. value said (tree m' i)) (λ i. value meant (tree after.circuit i)) after.roots
            (λ r k. let here = left.roots r k in let more = kept.more in value_agrees m' (valid_sound m' valid') said meant agrees r (omega arith) ∙ ap (value meant) (kept.trees r here))
            ∙ ap₂ (λ (x : List ℕ) (y : List Triple). values_of (with_new mc ac (assigned cleared_main cleared_aux challenges) x y) after.circuit after.roots) chosen.0 chosen.1
            ∙ one.keeps

        chosen_aux : (k : ℕ) → k < length after.aux → triple_at new_a k ≡ get_or one.values.aux k (lift 0)
        chosen_aux k l = sym (triples_at (length after.aux) new_a new_a_length k (lift 0) l) ∙ ap (λ (t : List Triple). get_or t k (lift 0)) chosen.1

    exists : (fill_call mc ac m' after.main after.aux challenges main aux).number ≡ 0
        → ExactlyOne mc ac lent.circuit lent.roots after (assigned (given mc ac lent.circuit lent.roots after m' main aux challenges).0 (given mc ac lent.circuit lent.roots after m' main aux challenges).1 challenges)
    unfolding row_cleared
    exists accepted =
        let k = ok accepted in
        promise.exactly_one _ (assigned_cells (sets main mc (replicate (length after.main) 0)) (sets aux (3 * ac) (replicate (3 * length after.aux) 0)) challenges
        (any_join (sets main mc (replicate (length after.main) 0) ++ sets aux (3 * ac) (replicate (3 * length after.aux) 0)) challenges
        (any_join (sets main mc (replicate (length after.main) 0)) (sets aux (3 * ac) (replicate (3 * length after.aux) 0)) k.main_words_lem k.aux_words_lem) k.challenge_words))

    choice_is : (fill_call mc ac m' after.main after.aux challenges main aux).number ≡ 0
        → (one : ExactlyOne mc ac lent.circuit lent.roots after (assigned (given mc ac lent.circuit lent.roots after m' main aux challenges).0 (given mc ac lent.circuit lent.roots after m' main aux challenges).1 challenges))
        → (new_main mc (length after.main) (fill_call mc ac m' after.main after.aux challenges main aux).lent.0 ≡ one.values.main)
        × ((k : ℕ) → k < length after.aux → triple_at (new_aux ac (length after.aux) (fill_call mc ac m' after.main after.aux challenges main aux).lent.1) k ≡ get_or one.values.aux k (lift 0))
    unfolding row_cleared cleared_main cleared_aux new new_a main' aux'
    choice_is accepted one = ((chosen accepted one).0, chosen_aux accepted one)

    keeps : (fill_call mc ac m' after.main after.aux challenges main aux).number ≡ 0
        → values_of (assigned (fill_call mc ac m' after.main after.aux challenges main aux).lent.0 (fill_call mc ac m' after.main after.aux challenges main aux).lent.1 challenges) m' after.roots
        ≡ values_of (assigned (given mc ac lent.circuit lent.roots after m' main aux challenges).0 (given mc ac lent.circuit lent.roots after m' main aux challenges).1 challenges) lent.circuit lent.roots
    unfolding row_cleared cleared_main cleared_aux main' aux' said
    keeps accepted = roots_keep accepted (exists accepted)

    latest : FillsLatest mc ac lent.circuit lent.roots after m' main aux challenges
    latest = record { number = number; rows_number = rows_number; one = exists; choice = choice_is; keeps = keeps }

-- FILLS THE LATEST: an accepted lowering of a grown circuit, nodes built or counted since, and any tables. By request 10 its lists are left to right
pub fills_latest : (target main_count aux_count : ℕ) (lent : Lowering) → Grown lent.circuit → (lower_call target main_count aux_count lent).number ≡ 0
    → (m' : List ℕ) → Since (returned (lower_call target main_count aux_count lent)).circuit m'
    → (main aux challenges : List ℕ) → FillsLatest main_count aux_count lent.circuit lent.roots (returned (lower_call target main_count aux_count lent)) m' main aux challenges
fills_latest T mc ac lent g h m' since main aux challenges = latest T mc ac lent g h (returned (lower_call T mc ac lent)) refl (left-to-right T mc ac lent g h) m' since main aux challenges
