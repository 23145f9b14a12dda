-- A whole trace of a circuit's latest lowering: what holds of any lists, and the roots' values. Assumes nothing.
use Rattle.std.specs.Prelude.{Some}
use Prim.Native.Nat.{ℕ, ◌+◌, ◌*◌, ◌/◌, ◌≤◌, ◌<◌}
use mathlib.Core.Path.{◌≡◌, refl, sym, ap, ap₂, ◌∙◌}
use mathlib.Core.Bool.{Bool, true, false}
use mathlib.Core.List.{List, [], ◌++◌}
use native.Mathlib.Omega.{arith}
use lib.ListN.{length, replicate}
use lib.Seq.{sets}
use Rattle.arithmetic.specs.Extension.{lift}
use Rattle.layout.specs.declared.node.Position.{Position}
use Rattle.layout.specs.declared.node.Position.TheVariants.{Main, Aux, NextMain, NextAux}
use Rattle.layout.specs.declared.node.Expression.TheVariants.{Input}
use Rattle.layout.specs.Lists.{In}
use Rattle.layout.specs.Words.{row_kind, used, is_next}
use Rattle.layout.specs.Tree.{input_leaf, tree}
use Rattle.layout.specs.NotCircuit.{not_circuit}
use Rattle.layout.specs.Outcomes.{Outcome}
use Rattle.reading.specs.Readings.{input_value, value}
use Rattle.reading.specs.Calls.{next_row, assigned}
use Rattle.lowering.specs.Lowering.{Lowering, too_high}
use Rattle.lowering.specs.Demand.{values_of}
use Rattle.lowering.specs.Calls.{lower_call, returned}
use Rattle.lowering.proofs.Shape.{leaf_e}
use Rattle.lowering.proofs.Words.{look, look_lt, says, has_used, valid_sound}
use Rattle.lowering.proofs.OneMore.{Taken}
use Rattle.lowering.proofs.Accepts as accepts
use Rattle.lowering.proofs.Accepts.{columns_start, first_tests, rooted_start, then_tests_lem}
use Rattle.filling.specs.Calls.{row_cleared, fill_rows_call}
use Rattle.filling.specs.Promise.{window_of, row_then}
use Rattle.filling.proofs.Values.{dual, fair}
use Rattle.filling.proofs.Tables.{triple_same}
use Rattle.filling.proofs.Written.{row_then_lem}
use Rattle.filling.proofs.Cleared.{kind_wide}
use Rattle.filling.proofs.RowByRow.{rows_are}
use Rattle.filling.proofs.Traces.{lengths_kept, rows_zero, rows-kept, rows_only, main_current, aux_current, main_after, aux_after}
use Rattle.grown.specs.Grown.{Grown}
use Rattle.grown.specs.Promise.{Promise}
use Rattle.grown.specs.Fills.{Since, FillsLatest}
use Rattle.grown.specs.Traces.{FillsTrace}
use Rattle.grown.proofs.Agrees.{Agree, value_agrees}
use Rattle.grown.proofs.Remains.{Remains, remains}
use Rattle.grown.proofs.Promised.{promised}
use Rattle.grown.proofs.Grows.{grown_good}
use Rattle.grown.proofs.Since.{Kept, since_grown, since_kept}
use Rattle.grown.proofs.Filled.{map_in}
use Rattle.grown.proofs.Latest.{fills_latest}

module _ (T mc ac : ℕ) (lent : Lowering) (h : (lower_call T mc ac lent).number ≡ 0) (after : Lowering) (left : Remains mc ac lent.circuit after) (promise : Promise T mc ac lent.circuit lent.roots after)
    (m' challenges : List ℕ) (since : Since after.circuit m') (latest : (x y : List ℕ) → FillsLatest mc ac lent.circuit lent.roots after m' x y challenges)
    (rows : ℕ) (main aux : List ℕ) (ok : (fill_rows_call mc ac m' after.main after.aux challenges rows main aux).number ≡ 0)
    (main' aux' : List ℕ) (is : (fill_rows_call mc ac m' after.main after.aux challenges rows main aux).lent ≡ (main', aux')) where
  abbrev a : ℕ
  a = length main / rows

  abbrev b : ℕ
  b = length aux / rows

  valid : not_circuit lent.circuit ≡ false
  valid = (first_tests T mc ac lent (accepts.accepted T mc ac lent h)).0.circuit

  valid' : not_circuit m' ≡ false
  valid' = (grown_good m' (since_grown after.circuit m' promise.grown-again since)).circuit

  kept : Kept after.circuit m'
  kept = since_kept after.circuit m' promise.grown-again since

  roots_in : (r : ℕ) → In r lent.roots → r < used lent.circuit
  roots_in r k =
      let (f, g) = first_tests T mc ac lent (accepts.accepted T mc ac lent h) in
      let (t, w) = rooted_start lent.circuit lent.roots (valid_sound lent.circuit valid) f.ids r k in
      has_used lent.circuit t r w

  -- an input of the next row is one of the circuit since then
  two_rows : (i : ℕ) (q : Position) → is_next q ≡ true → look lent.circuit i ≡ Some (leaf_e (input_leaf q)) → row_kind m' ≡ 2
  two_rows i q e k =
      let k' : look after.circuit i ≡ Some (leaf_e (input_leaf q)) = left.leaves i (input_leaf q) k in
      let here : i < used after.circuit = look_lt after.circuit i (leaf_e (input_leaf q)) k' in
      let more = kept.more in
      dual m' valid' q e (fair m' valid' i (omega arith) (Input q) (kept.expressions i here ∙ says after.circuit i (Input q) k'))

  module _ (r : ℕ) (l : r + row_kind m' ≤ rows) where
    row_main : List ℕ
    row_main = row_then (row_kind m') a r main main'

    row_aux : List ℕ
    row_aux = row_then (row_kind m') b r aux aux'

    seen : List ℕ × List ℕ
    seen = row_cleared mc ac after.main after.aux (row_main, row_aux)

    lent_main : List ℕ
    lent_main = window_of (row_kind m') a r main

    lent_aux : List ℕ
    lent_aux = window_of (row_kind m') b r aux

    -- where a root was too high, COLUMNS has looked at every input: each is an old column's, and those are as they were in both rows
    module _ (high : too_high T lent.circuit lent.roots ≡ true) where
      taken : (i : ℕ) (q : Position) → look lent.circuit i ≡ Some (leaf_e (input_leaf q)) → Taken (mc + 0) (ac + 0) q
      taken i q k =
          let (f, g) = first_tests T mc ac lent (accepts.accepted T mc ac lent h) in
          columns_start mc ac lent.circuit lent.roots (then_tests_lem T mc ac lent (rw high at g)).columns i q k

      agrees : Agree (look lent.circuit) (assigned seen.0 seen.1 challenges) (assigned lent_main lent_aux challenges)
      unfolding assigned seen row_main row_aux lent_main lent_aux
      agrees = record { inputs = at; challenges = λ k. refl }
        where
          at : (i : ℕ) (q : Position) → look lent.circuit i ≡ Some (leaf_e (input_leaf q)) → input_value (assigned seen.0 seen.1 challenges) q ≡ input_value (assigned lent_main lent_aux challenges) q
          at i (Main c) k = ap lift (main_current mc ac m' after.main after.aux challenges rows main aux ok main' aux' is r l c (omega (arith, taken i (Main c) k)))
          at i (Aux c) k = triple_same seen.1 lent_aux ac c (omega (arith, taken i (Aux c) k)) (aux_current mc ac m' after.main after.aux challenges rows main aux ok main' aux' is r l)
          at i (NextMain c) k = ap lift (main_after mc ac m' after.main after.aux challenges rows main aux ok main' aux' is r l (two_rows i (NextMain c) refl k) c (omega (arith, taken i (NextMain c) k)))
          at i (NextAux c) k = triple_same (next_row seen.1) (next_row lent_aux) ac c (omega (arith, taken i (NextAux c) k)) (aux_after mc ac m' after.main after.aux challenges rows main aux ok main' aux' is r l (two_rows i (NextAux c) refl k))

      high_values : values_of (assigned seen.0 seen.1 challenges) lent.circuit lent.roots ≡ values_of (assigned lent_main lent_aux challenges) lent.circuit lent.roots
      high_values =
          map_in (λ i. value (assigned seen.0 seen.1 challenges) (tree lent.circuit i)) (λ i. value (assigned lent_main lent_aux challenges) (tree lent.circuit i)) lent.roots
          (λ i k. value_agrees lent.circuit (valid_sound lent.circuit valid) (assigned seen.0 seen.1 challenges) (assigned lent_main lent_aux challenges) agrees i (roots_in i k))

    -- otherwise there is nothing to fill, and the tables stay
    module _ (low : too_high T lent.circuit lent.roots ≡ false) where
      none_listed : (after.main ≡ []) × (after.aux ≡ [])
      none_listed = promise.no_new low

      stay : (main ≡ main') × (aux ≡ aux')
      stay = rows_only mc ac m' after.main after.aux challenges rows main aux ok main' aux' is main aux refl refl refl (λ r l q k. absurd (none q k))
        where
          none : (q : ℕ) → In q (after.main ++ after.aux) → ⊥
          none q k = rw (none_listed.0, none_listed.1) at k

      same_main : seen.0 ≡ lent_main
      unfolding seen row_cleared row_main row_aux lent_main
      same_main =
          ap (λ (qs : List ℕ). sets (row_then (row_kind m') a r main main') mc (replicate (length qs) 0)) none_listed.0
          ∙ ap (row_then (row_kind m') a r main) (sym stay.0)
          ∙ sym (row_then_lem (row_kind m') a r main (kind_wide m' valid' a))

      same_aux : seen.1 ≡ lent_aux
      unfolding seen row_cleared row_main row_aux lent_aux
      same_aux =
          ap (λ (qs : List ℕ). sets (row_then (row_kind m') b r aux aux') (3 * ac) (replicate (3 * length qs) 0)) none_listed.1
          ∙ ap (row_then (row_kind m') b r aux) (sym stay.1)
          ∙ sym (row_then_lem (row_kind m') b r aux (kind_wide m' valid' b))

    -- so the originals' values hang neither on the cells to be filled nor on what was filled into the next row
    same_values : (high : Bool) → too_high T lent.circuit lent.roots ≡ high → values_of (assigned seen.0 seen.1 challenges) lent.circuit lent.roots ≡ values_of (assigned lent_main lent_aux challenges) lent.circuit lent.roots
    same_values true high = high_values high
    same_values false low = ap₂ (λ (x y : List ℕ). values_of (assigned x y challenges) lent.circuit lent.roots) (same_main low) (same_aux low)

    row_keeps : values_of (assigned (window_of (row_kind m') a r main') (window_of (row_kind m') b r aux') challenges) m' after.roots ≡ values_of (assigned lent_main lent_aux challenges) lent.circuit lent.roots
    unfolding seen row_main row_aux
    row_keeps =
        let one = (rows_are mc ac m' after.main after.aux challenges rows main aux ok main' aux' is).each r l in
        ap (λ (o : Outcome (Unit {0}) (List ℕ × List ℕ)). values_of (assigned o.lent.0 o.lent.1 challenges) m' after.roots) (sym one)
        ∙ (latest row_main row_aux).keeps (ap (λ (o : Outcome (Unit {0}) (List ℕ × List ℕ)). o.number) one)
        ∙ same_values (too_high T lent.circuit lent.roots) refl

  keeps : (r : ℕ) → r + row_kind m' ≤ rows
      → values_of (assigned (window_of (row_kind m') (length main' / rows) r main') (window_of (row_kind m') (length aux' / rows) r aux') challenges) m' after.roots
      ≡ values_of (assigned (window_of (row_kind m') (length main / rows) r main) (window_of (row_kind m') (length aux / rows) r aux) challenges) lent.circuit lent.roots
  unfolding lent_main lent_aux
  keeps r l =
      let (e, f) = lengths_kept mc ac m' after.main after.aux challenges rows main aux ok main' aux' is in
      rw (e, f) (row_keeps r l)

  trace : FillsTrace mc ac lent.circuit lent.roots after m' challenges rows main aux main' aux'
  trace =
      record {
        beside = rows-kept mc ac m' after.main after.aux challenges rows main aux ok main' aux' is;
        zeros = λ r l. rows_zero mc ac m' after.main after.aux challenges rows main aux ok main' aux' is r l;
        keeps = keeps;
        only = λ x y e f given zeros. rows_only mc ac m' after.main after.aux challenges rows main aux ok main' aux' is x y e f given zeros;
      }

-- FILLS A TRACE: an accepted lowering of a grown circuit, nodes built or counted since, and an accepted fill_rows of its lists
pub fills_trace : (target main_count aux_count : ℕ) (lent : Lowering) → Grown lent.circuit → (lower_call target main_count aux_count lent).number ≡ 0
    → (m' : List ℕ) → Since (returned (lower_call target main_count aux_count lent)).circuit m'
    → (main aux challenges : List ℕ) (rows : ℕ) → (fill_rows_call main_count aux_count m' (returned (lower_call target main_count aux_count lent)).main (returned (lower_call target main_count aux_count lent)).aux challenges rows main aux).number ≡ 0
    → (main' aux' : List ℕ) → (fill_rows_call main_count aux_count m' (returned (lower_call target main_count aux_count lent)).main (returned (lower_call target main_count aux_count lent)).aux challenges rows main aux).lent ≡ (main', aux')
    → FillsTrace main_count aux_count lent.circuit lent.roots (returned (lower_call target main_count aux_count lent)) m' challenges rows main aux main' aux'
fills_trace T mc ac lent g h m' since main aux challenges rows ok main' aux' is =
    trace T mc ac lent h (returned (lower_call T mc ac lent)) (remains T mc ac lent h) (promised T mc ac lent g h) m' challenges since (λ x y. fills_latest T mc ac lent g h m' since x y challenges) rows main aux ok main' aux' is
