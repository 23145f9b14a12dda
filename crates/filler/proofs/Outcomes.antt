-- How the tests, in their order, make a call's outcome; and what tables that have passed them give the rows. Assumes nothing.
use Prim.Native.Nat.{ℕ, suc, ◌+◌, ◌-◌, ◌*◌, ◌/◌, ◌<◌, ◌≤◌}
use mathlib.Core.Path.{◌≡◌, refl, sym, ap, ◌∙◌}
use mathlib.Core.Bool.{Bool, true, false}
use mathlib.Core.List.{List, [], ◌++◌}
use native.Mathlib.Nat.{div-le_self}
use native.Mathlib.Omega.{arith}
use lib.Dec.{leb}
use lib.ListN.{length}
use Rattle.layout.specs.Lists.{any}
use Rattle.layout.specs.Words.{row_kind, used}
use borrow.Author.Tests.{lt-ltb}
use Rattle.layout.specs.NotCircuit.{not_circuit, bad_header, bad_id, bad_word}
use Rattle.layout.specs.Outcomes.{Outcome}
use Rattle.layout.specs.Answers.{accepted, refused}
use Rattle.layout.proofs.Tests.{or-false, or_right}
use Rattle.layout.proofs.Lists.{or_left}
use Rattle.layout.proofs.Refusals.{refusal_here, refusal_next, refusal_none, outcome_accepted, outcome_refused}
use Rattle.read.proofs.Lists.{any_append}
use Rattle.filling.specs.Refusals.{bad_rows, not_lowered}
use Rattle.filling.specs.Calls.{row_filled, each_row, all_rows, fill_outcome, fill_call, fill_rows_call}
use Rattle.filling.proofs.Cleared.{Sizes, sizes, aux_width, inside}
use Rattle.filling.proofs.OneRow.{one_row}
use Rattle.fillable.specs.Given.{given_words}
use Rattle.fillable.specs.Targets.{Targets}
use Rattle.filler.specs.declared.plan.Shape.{Shape}
use Rattle.filler.specs.Preparing.{RightLists}
use Rattle.filler.specs.Filling.{shape_of, Within, GivenTables}

module _ (main_count aux_count rows : ℕ) (m mains auxs challenges main aux : List ℕ) where
  abbrev call : Outcome (Unit {0}) (List ℕ × List ℕ)
  call = fill_rows_call main_count aux_count m mains auxs challenges rows main aux

  abbrev ids : Bool
  ids = bad_id m (mains ++ auxs)

  abbrev table : Bool
  table = bad_rows rows main_count aux_count m mains auxs main aux challenges

  abbrev given : Bool
  given = any bad_word (given_words rows main_count aux_count m mains auxs main aux challenges)

  abbrev lowered : Bool
  lowered = not_lowered main_count aux_count m mains auxs

  -- both lists
  main_id : bad_id m mains ≡ true → ids ≡ true
  unfolding bad_id
  main_id h = any_append (leb (used m)) mains auxs ∙ or_left (any (leb (used m)) mains) (any (leb (used m)) auxs) h

  aux_id : bad_id m auxs ≡ true → ids ≡ true
  unfolding bad_id
  aux_id h = any_append (leb (used m)) mains auxs ∙ or_right (any (leb (used m)) mains) (any (leb (used m)) auxs) h

  both_ids : bad_id m mains ≡ false → bad_id m auxs ≡ false → ids ≡ false
  unfolding bad_id
  both_ids h k = any_append (leb (used m)) mains auxs ∙ or-false (any (leb (used m)) mains) (any (leb (used m)) auxs) h k

  pub told_circuit : not_circuit m ≡ true → refused 1 tt (main, aux) ≡ call
  unfolding fill_rows_call fill_outcome
  told_circuit h = sym (outcome_refused _ tt _ tt (main, aux) 0 (refusal_here 1 (not_circuit m) _ h))

  module _ (valid : not_circuit m ≡ false) where
    told_ids : ids ≡ true → refused 2 tt (main, aux) ≡ call
    unfolding fill_rows_call fill_outcome
    told_ids h = sym (outcome_refused _ tt _ tt (main, aux) 1 (refusal_next 1 (not_circuit m) _ valid ∙ refusal_here 2 ids _ h))

    pub told_main_ids : bad_id m mains ≡ true → refused 2 tt (main, aux) ≡ call
    told_main_ids h = told_ids (main_id h)

    pub told_aux_ids : bad_id m auxs ≡ true → refused 2 tt (main, aux) ≡ call
    told_aux_ids h = told_ids (aux_id h)

    module _ (main_ids : bad_id m mains ≡ false) (aux_ids : bad_id m auxs ≡ false) where
      good : ids ≡ false
      good = both_ids main_ids aux_ids

      pub told_table : table ≡ true → refused 15 tt (main, aux) ≡ call
      unfolding fill_rows_call fill_outcome
      told_table h = sym (outcome_refused _ tt _ tt (main, aux) 14 (refusal_next 1 (not_circuit m) _ valid ∙ refusal_next 2 ids _ good ∙ refusal_here 15 table _ h))

      module _ (fits : table ≡ false) where
        pub told_words : given ≡ true → refused 5 tt (main, aux) ≡ call
        unfolding fill_rows_call fill_outcome
        told_words h = sym (outcome_refused _ tt _ tt (main, aux) 4 (refusal_next 1 (not_circuit m) _ valid ∙ refusal_next 2 ids _ good ∙ refusal_next 15 table _ fits ∙ refusal_here 5 given _ h))

        module _ (words : given ≡ false) where
          pub told_lowered : lowered ≡ true → refused 17 tt (main, aux) ≡ call
          unfolding fill_rows_call fill_outcome
          told_lowered h = sym (outcome_refused _ tt _ tt (main, aux) 16 (refusal_next 1 (not_circuit m) _ valid ∙ refusal_next 2 ids _ good ∙ refusal_next 15 table _ fits ∙ refusal_next 5 given _ words ∙ refusal_here 17 lowered [] h))

          told_done : lowered ≡ false → accepted tt (all_rows (row_kind m) (row_filled main_count aux_count m mains auxs challenges) rows (main, aux)) ≡ call
          unfolding fill_rows_call fill_outcome
          told_done h = sym (outcome_accepted _ tt (all_rows (row_kind m) (row_filled main_count aux_count m mains auxs challenges) rows (main, aux)) tt (main, aux) (refusal_next 1 (not_circuit m) _ valid ∙ refusal_next 2 ids _ good ∙ refusal_next 15 table _ fits ∙ refusal_next 5 given _ words ∙ refusal_next 17 lowered [] h ∙ refusal_none))

  -- one row
  pub told_one : fill_rows_call main_count aux_count m mains auxs challenges (row_kind m) main aux ≡ fill_call main_count aux_count m mains auxs challenges main aux
  told_one = one_row main_count aux_count m mains auxs challenges main aux

  module _ (order rank : List ℕ) (ok : GivenTables main_count aux_count rows m order rank mains auxs challenges main aux) where
    valid : not_circuit m ≡ false
    valid = ok.listing.valid

    sized : Sizes main_count aux_count m mains auxs challenges rows main aux
    sized = sizes main_count aux_count m mains auxs challenges rows main aux ok.tested

    pub rows_some : row_kind m ≤ rows
    rows_some = sized.kind_fits

    pub columns_fit : (main_count + length mains ≤ length main) × (aux_count + length auxs ≤ length aux)
    columns_fit =
        let a = sized.main_room in
        let b = sized.aux_room in
        let c = div-le_self (length main) rows in
        let d = div-le_self (length aux) (3 * rows) in
        (omega arith, omega arith)

    pub refused_lowered : lowered ≡ true → refused 17 tt (main, aux) ≡ call
    refused_lowered h = told_lowered valid ok.listing.main_ids ok.listing.aux_ids ok.tested ok.good h

    abbrev shape : Shape
    shape = shape_of main_count aux_count mains auxs (length main / rows) (length aux / (3 * rows))

    module _ (targets : List ℕ) (right : lowered ≡ false) (found : Targets main_count aux_count m mains auxs targets) (main_small : length main ≤ 1152921504606846976) (aux_small : length aux ≤ 1152921504606846976) where
      pub all_passed : RightLists shape m mains auxs challenges targets
      all_passed =
          let c = div-le_self (length main) rows in
          let d = div-le_self (length aux) (3 * rows) in
          let f = found.few in
          record {
            valid = valid;
            main_ids = ok.listing.main_ids;
            aux_ids = ok.listing.aux_ids;
            lowered = right;
            found = found;
            is_fresh = refl;
            is_items = refl;
            main_fits = sized.main_room;
            aux_fits = sized.aux_room;
            reads = sized.reads;
            small = record { main_small = omega arith; aux_small = omega arith; new_small = omega arith };
          }

    wide_is : length aux / rows ≡ 3 * (length aux / (3 * rows))
    wide_is = aux_width main_count aux_count m mains auxs challenges rows main aux valid ok.tested

    pub all_within : Within shape (row_kind m) (suc rows - row_kind m) main aux
    all_within =
        record { each = λ r l. let (x, y) = inside main_count aux_count m mains auxs challenges rows main aux valid ok.tested r l in record { main_inside = x; aux_inside = rw wide_is at y } }

    -- all rows are filled
    pub all_filled : lowered ≡ false → (main' aux' : List ℕ) → (main', aux') ≡ each_row (row_kind m) (row_filled main_count aux_count m mains auxs challenges) (length main / rows) (3 * (length aux / (3 * rows))) (suc rows - row_kind m) (main, aux)
        → accepted tt (main', aux') ≡ call
    unfolding all_rows
    all_filled right main' aux' e =
        ap (λ (t : List ℕ × List ℕ). accepted tt t)
        (e ∙ ap (λ (b : ℕ). each_row (row_kind m) (row_filled main_count aux_count m mains auxs challenges) (length main / rows) b (suc rows - row_kind m) (main, aux)) (sym wide_is))
        ∙ told_done valid ok.listing.main_ids ok.listing.aux_ids ok.tested ok.good right

-- too few words for the row kind and the used count
pub short_circuit : (m : List ℕ) → length m < 2 → not_circuit m ≡ true
unfolding not_circuit bad_header
short_circuit m h = rw (lt-ltb (length m) 2 h)
