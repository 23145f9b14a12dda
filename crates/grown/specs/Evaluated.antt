-- Demand 3 over the public evaluation: lent tables in the place of an assignment, and what `evaluate` answers in the place of values. Assumes nothing.
use Rattle.std.specs.Prelude.{ℕ, ◌*◌, ◌%◌, ◌<◌, ◌≡◌, true, false, ◌&&◌, List, ◌++◌, map, length, eqb}
use Rattle.std.proofs.lemmas.List.Edits.{sets}
use Rattle.arithmetic.specs.declared.Triple.{Triple}
use Rattle.arithmetic.specs.Base.{p}
use Rattle.arithmetic.specs.Extension.{lift}
use Rattle.layout.specs.Lists.{any, In}
use Rattle.layout.specs.Words.{row_kind, used, expression_at}
use Rattle.layout.specs.NotCircuit.{bad_word}
use Rattle.layout.specs.Outcomes.{Outcome}
use Rattle.layout.specs.Answers.{accepted}
use Rattle.reading.specs.Refusals.{reads_beyond}
use Rattle.reading.specs.Calls.{evaluate_call}
use Rattle.lowering.specs.Lowering.{Lowering}

-- tables that no evaluation in m refuses: lengths as their layout needs, no node reads beyond, and every word is below p
pub record Wide (m main aux challenges : List ℕ) : Type 0 where
  pub lengths : (eqb (length main % row_kind m) 0 && (eqb (length aux % (3 * row_kind m)) 0 && eqb (length challenges % 3) 0)) ≡ true
  pub reads : (i : ℕ) → i < used m → reads_beyond m main aux challenges (expression_at m i) ≡ false
  pub words : any bad_word (main ++ aux ++ challenges) ≡ false

-- a choice of words for k new main columns, and for l new auxiliary ones
pub record NewWords (k l : ℕ) : Type 0 where
  pub main : List ℕ
  pub aux : List ℕ
  pub main_count : length main ≡ k
  pub aux_count : length aux ≡ 3 * l
  pub main_below : (w : ℕ) → In w main → w < p
  pub aux_below : (w : ℕ) → In w aux → w < p

module _ (main_count aux_count : ℕ) (m roots : List ℕ) (after : Lowering) (main aux challenges : List ℕ) where
  -- what the evaluation of a node afterwards answers, with these words stored in the current row, from the counts on
  abbrev pub evaluates : List ℕ → List ℕ → ℕ → Outcome Triple (Unit {0})
  evaluates new_main new_aux i = evaluate_call after.circuit i (sets main main_count new_main) (sets aux (3 * aux_count) new_aux) challenges

  -- exactly one choice of words makes every listed constraint evaluate to zero, and under it every root evaluates to what its original did
  pub record OneFill : Type 0 where
    pub values : NewWords (length after.main) (length after.aux)
    pub zeros : (q : ℕ) → In q (after.main ++ after.aux) → evaluates values.main values.aux q ≡ accepted (lift 0) tt
    pub answered : (r : ℕ) → In r roots → (evaluate_call m r main aux challenges).number ≡ 0
    pub keeps : map (evaluates values.main values.aux) after.roots ≡ map (λ r. evaluate_call m r main aux challenges) roots
    pub only : (other : NewWords (length after.main) (length after.aux)) → ((q : ℕ) → In q (after.main ++ after.aux) → evaluates other.main other.aux q ≡ accepted (lift 0) tt)
        → (other.main ≡ values.main) × (other.aux ≡ values.aux)
