-- The public calls that fill the new columns, of one row and of many. Assumes nothing.
use Rattle.std.specs.Prelude.{ℕ, zero, suc, ◌-◌, ◌*◌, ◌/◌, List, [], ◌∷◌, ◌++◌, length, set, take, drop, replicate, Option, None, Some}
use Rattle.std.proofs.lemmas.List.Edits.{sets}
use Rattle.arithmetic.specs.declared.Triple.{Triple}
use Rattle.arithmetic.specs.Extension.{lift}
use Rattle.layout.specs.declared.node.Position.TheVariants.{Main, Aux}
use Rattle.layout.specs.Lists.{any}
use Rattle.layout.specs.Tree.{tree}
use Rattle.layout.specs.NotCircuit.{not_circuit, bad_id, bad_word}
use Rattle.layout.specs.Outcomes.{Outcome, outcome}
use Rattle.reading.specs.Readings.{Assignment, value}
use Rattle.reading.specs.Calls.{assigned}
use Rattle.filling.specs.Tables.{rows_read, element_words}
use Rattle.filling.specs.Constraints.{expression_of}
use Rattle.filling.specs.Refusals.{bad_rows, not_lowered}

-- the value that a column gets
abbrev pub worth : Assignment → List ℕ → Option ℕ → Triple
worth s m None = lift 0
worth s m (Some e) = value s (tree m e)

-- each new main value, from the column c on, with those before it in the row
unfoldable pub main_filled : List ℕ → List ℕ → List ℕ → ℕ → List ℕ → List ℕ → List ℕ
main_filled m aux challenges c main [] = main
main_filled m aux challenges c main (q ∷ qs) =
    main_filled m aux challenges (suc c) (set main c (worth (assigned main aux challenges) m (expression_of m (Main c) q)).c0) qs

-- then each new auxiliary value
unfoldable pub aux_filled : List ℕ → List ℕ → List ℕ → ℕ → List ℕ → List ℕ → List ℕ
aux_filled m main challenges c aux [] = aux
aux_filled m main challenges c aux (q ∷ qs) =
    let x = worth (assigned main aux challenges) m (expression_of m (Aux c) q) in
    aux_filled m main challenges (suc c) (sets aux (element_words * c) (x.c0 ∷ x.c1 ∷ x.c2 ∷ [])) qs

-- zero in the cells to be filled: they aren't given words
unfoldable pub row_cleared : ℕ → ℕ → List ℕ → List ℕ → List ℕ × List ℕ → List ℕ × List ℕ
row_cleared main_count aux_count mains auxs t = (sets t.0 main_count (replicate (length mains) 0), sets t.1 (element_words * aux_count) (replicate (element_words * length auxs) 0))

-- something done to row r of tables whose rows have so many words, together with the row after it where the row kind is 2
unfoldable pub at_row : ℕ → (List ℕ × List ℕ → List ℕ × List ℕ) → ℕ → ℕ → ℕ → List ℕ × List ℕ → List ℕ × List ℕ
at_row kind f a b r t =
    let x = f (take (kind * a) (drop (r * a) t.0), take (kind * b) (drop (r * b) t.1)) in
    (sets t.0 (r * a) x.0, sets t.1 (r * b) x.1)

-- to so many rows, from the last to the first: a next row is filled before it is read
unfoldable pub each_row : ℕ → (List ℕ × List ℕ → List ℕ × List ℕ) → ℕ → ℕ → ℕ → List ℕ × List ℕ → List ℕ × List ℕ
each_row kind f a b zero t = t
each_row kind f a b (suc r) t = each_row kind f a b r (at_row kind f a b r t)

-- to all rows of tables of so many: of a dual-row circuit the last is a next row only
unfoldable pub all_rows : ℕ → (List ℕ × List ℕ → List ℕ × List ℕ) → ℕ → List ℕ × List ℕ → List ℕ × List ℕ
all_rows kind f rows t = each_row kind f (length t.0 / rows) (length t.1 / rows) (suc rows - kind) t

-- what is asked: the counts, the circuit, its two lists, the challenges
module _ (main_count aux_count : ℕ) (m mains auxs challenges : List ℕ) where
  -- the tables of one row (of a dual-row circuit, of two), filled: the current row is at the front
  unfoldable pub row_filled : List ℕ × List ℕ → List ℕ × List ℕ
  row_filled t =
      let main = main_filled m t.1 challenges main_count t.0 mains in
      (main, aux_filled m main challenges aux_count t.1 auxs)

  -- the tests, 1, 2, 15, 5, 17, of tables of so many rows, of which these words are given, and which are these when they are filled
  unfoldable pub fill_outcome : ℕ → List ℕ × List ℕ → List ℕ × List ℕ → List ℕ → List ℕ → Outcome (Unit {0}) (List ℕ × List ℕ)
  fill_outcome rows given filled main aux =
      outcome
      ((1, not_circuit m) ∷ (2, bad_id m (mains ++ auxs)) ∷ (15, bad_rows rows main_count aux_count m mains auxs main aux challenges)
      ∷ (5, any bad_word (given.0 ++ given.1 ++ challenges)) ∷ (17, not_lowered main_count aux_count m mains auxs) ∷ [])
      tt filled tt (main, aux)

  -- one row; a dual-row circuit is given both rows, and the current one is filled
  unfoldable pub fill_call : List ℕ → List ℕ → Outcome (Unit {0}) (List ℕ × List ℕ)
  fill_call main aux = fill_outcome (rows_read m) (row_cleared main_count aux_count mains auxs (main, aux)) (row_filled (main, aux)) main aux

  -- tables of so many rows
  unfoldable pub fill_rows_call : ℕ → List ℕ → List ℕ → Outcome (Unit {0}) (List ℕ × List ℕ)
  fill_rows_call rows main aux = fill_outcome rows (all_rows (rows_read m) (row_cleared main_count aux_count mains auxs) rows (main, aux)) (all_rows (rows_read m) row_filled rows (main, aux)) main aux
