-- What an accepted fill promises, of any lists: only the new cells are written, each holds the value of its expression, every listed constraint is zero,
-- and no other words in the new cells do that. Assumes nothing.
use Rattle.std.specs.Prelude.{ℕ, suc, ◌+◌, ◌-◌, ◌*◌, ◌/◌, ◌≤◌, ◌<◌, ◌≡◌, false, List, [], ◌++◌, length, get_or, take, drop, Some}
use Rattle.std.proofs.lemmas.List.Edits.{sets}
use Rattle.arithmetic.specs.Extension.{lift}
use Rattle.layout.specs.declared.node.Position.TheVariants.{Main, Aux}
use Rattle.layout.specs.Lists.{In, any}
use Rattle.layout.specs.Tree.{tree}
use Rattle.layout.specs.NotCircuit.{bad_word}
use Rattle.layout.specs.Answers.{accepted}
use Rattle.reading.specs.Readings.{value}
use Rattle.reading.specs.Calls.{triple_at, assigned, evaluate_call}
use Rattle.filling.specs.Tables.{rows_read, element_words}
use Rattle.filling.specs.Constraints.{expression_of}
use Rattle.filling.specs.Calls.{fill_call}

-- the words of the new cells: of so many main columns from a count on, and of so many auxiliary ones
abbrev pub new_main : ℕ → ℕ → List ℕ → List ℕ
new_main count n main = take n (drop count main)

abbrev pub new_aux : ℕ → ℕ → List ℕ → List ℕ
new_aux count n aux = take (element_words * n) (drop (element_words * count) aux)

-- rows of so many words: as many as a circuit reads, from row r on
abbrev pub window_of : ℕ → ℕ → ℕ → List ℕ → List ℕ
window_of kind width r table = take (kind * width) (drop (r * width) table)

-- row r of one table, and what follows it in another
abbrev pub row_then : ℕ → ℕ → ℕ → List ℕ → List ℕ → List ℕ
row_then kind width r table other = take width (drop (r * width) table) ++ take (kind * width - width) (drop (r * width + width) other)

module _ (main_count aux_count : ℕ) (m mains auxs challenges : List ℕ) where
  -- every listed constraint evaluates to zero on these tables
  abbrev pub Zero : List ℕ → List ℕ → Type 0
  Zero main aux = (q : ℕ) → In q (mains ++ auxs) → evaluate_call m q main aux challenges ≡ accepted (lift 0) tt

  -- each new cell of these tables holds the value of its expression under them
  pub record Holds (main aux : List ℕ) : Type 0 where
    pub main_cells : (k : ℕ) → k < length mains
        → (e : ℕ) × (expression_of m (Main (main_count + k)) (get_or mains k 0) ≡ Some e) × (lift (get_or main (main_count + k) 0) ≡ value (assigned main aux challenges) (tree m e))
    pub aux_cells : (k : ℕ) → k < length auxs
        → (e : ℕ) × (expression_of m (Aux (aux_count + k)) (get_or auxs k 0) ≡ Some e) × (triple_at aux (aux_count + k) ≡ value (assigned main aux challenges) (tree m e))

  -- the tables before and after
  pub record Solves (main aux main' aux' : List ℕ) : Type 0 where
    -- only the new cells are written
    pub main_kept : main' ≡ sets main main_count (new_main main_count (length mains) main')
    pub aux_kept : aux' ≡ sets aux (element_words * aux_count) (new_aux aux_count (length auxs) aux')
    -- every word is below p now
    pub words : any bad_word (main' ++ aux' ++ challenges) ≡ false
    pub holds : Holds main' aux'
    pub zeros : Zero main' aux'
    -- and no other words in the new cells make them all zero
    pub only : (x y : List ℕ) → length x ≡ length mains → length y ≡ element_words * length auxs → Zero (sets main main_count x) (sets aux (element_words * aux_count) y) → (x ≡ new_main main_count (length mains) main') × (y ≡ new_aux aux_count (length auxs) aux')

  -- tables of many rows, before and after: each row is filled as one, before the row after it as it is afterwards; the last of a dual-row circuit stays
  pub record RowByRow (rows : ℕ) (main aux main' aux' : List ℕ) : Type 0 where
    pub each : (r : ℕ) → r + rows_read m ≤ rows
        → fill_call main_count aux_count m mains auxs challenges (row_then (rows_read m) (length main / rows) r main main') (row_then (rows_read m) (length aux / rows) r aux aux')
        ≡ accepted tt (window_of (rows_read m) (length main / rows) r main', window_of (rows_read m) (length aux / rows) r aux')
    pub main_last : drop ((suc rows - rows_read m) * (length main / rows)) main' ≡ drop ((suc rows - rows_read m) * (length main / rows)) main
    pub aux_last : drop ((suc rows - rows_read m) * (length aux / rows)) aux' ≡ drop ((suc rows - rows_read m) * (length aux / rows)) aux

  -- the same in two steps: the main columns, before there are auxiliary words and challenges; then the auxiliary ones, where the main ones are old columns
  pub record InTwo (main aux main' aux' : List ℕ) : Type 0 where
    pub mains_first : fill_call main_count 0 m mains [] [] main [] ≡ accepted tt (main', [])
    pub auxs_then : fill_call (main_count + length mains) aux_count m [] auxs challenges main' aux ≡ accepted tt (main', aux')
