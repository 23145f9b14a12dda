-- The conditions of fill's own refusals, by their numbers. The tables hold so many rows, one after the other. Assumes nothing.
use Rattle.std.specs.Prelude.{ℕ, suc, ◌+◌, ◌*◌, ◌/◌, ◌%◌, Bool, true, false, ◌&&◌, ◌||◌, not, List, [], ◌∷◌, ◌++◌, length, ltb, leb, eqb, if◌then◌else◌, Option, None, Some}
use Rattle.layout.specs.declared.node.Position.TheVariants.{Main, Aux}
use Rattle.layout.specs.declared.node.Expression.{Expression}
use Rattle.layout.specs.declared.node.Expression.TheVariants.{Base, Extension, Challenge, Operation, Input}
use Rattle.layout.specs.Lists.{any}
use Rattle.layout.specs.Words.{expression_at, is_main, column}
use Rattle.layout.specs.Tree.{tree}
use Rattle.walking.specs.Paths.{walks}
use Rattle.reading.specs.Readings.{is_base}
use Rattle.filling.specs.Tables.{rows_read, element_words}
use Rattle.filling.specs.Constraints.{expression_of, reads_unfilled}

-- a read beyond a row of a main and b auxiliary columns, or beyond c challenges
abbrev pub beyond : ℕ → ℕ → ℕ → Expression → Bool
beyond a b c (Base w) = false
beyond a b c (Extension x) = false
beyond a b c (Challenge k) = leb c k
beyond a b c (Operation o l r) = false
beyond a b c (Input q) = leb (if is_main q then a else b) (column q)

-- 15: fewer rows than the circuit reads, a length not divisible as its layout needs, a row without room for the new columns, or a read beyond it:
-- of the nodes at and below the listed ones
unfoldable pub bad_rows : ℕ → ℕ → ℕ → List ℕ → List ℕ → List ℕ → List ℕ → List ℕ → List ℕ → Bool
bad_rows rows main_count aux_count m mains auxs main aux challenges =
    ltb rows (rows_read m)
    || not (eqb (length main % rows) 0 && (eqb (length aux % (element_words * rows)) 0 && eqb (length challenges % element_words) 0))
    || (ltb (length main / rows) (main_count + length mains) || ltb (length aux / (element_words * rows)) (aux_count + length auxs))
    || any (λ i. beyond (length main / rows) (length aux / (element_words * rows)) (length challenges / element_words) (expression_at m i)) (walks m (mains ++ auxs))

-- 17, of a main node: no such expression, one that reads an unfilled current-row column, or one that fails the base test
abbrev pub wrong_main : ℕ → ℕ → List ℕ → Option ℕ → Bool
wrong_main a b m None = true
wrong_main a b m (Some e) = reads_unfilled a b m e || not (is_base (tree m e))

-- of an auxiliary node
abbrev pub wrong_aux : ℕ → ℕ → List ℕ → Option ℕ → Bool
wrong_aux a b m None = true
wrong_aux a b m (Some e) = reads_unfilled a b m e

-- of the main list; c is the column that is filled next
unfoldable pub mains_wrong : ℕ → List ℕ → ℕ → List ℕ → Bool
mains_wrong b m c [] = false
mains_wrong b m c (q ∷ qs) = wrong_main c b m (expression_of m (Main c) q) || mains_wrong b m (suc c) qs

-- of the auxiliary list, where a main columns are there
unfoldable pub auxs_wrong : ℕ → List ℕ → ℕ → List ℕ → Bool
auxs_wrong a m c [] = false
auxs_wrong a m c (q ∷ qs) = wrong_aux a c m (expression_of m (Aux c) q) || auxs_wrong a m (suc c) qs

-- 17 NOT_LOWERED
unfoldable pub not_lowered : ℕ → ℕ → List ℕ → List ℕ → List ℕ → Bool
not_lowered main_count aux_count m mains auxs = mains_wrong aux_count m main_count mains || auxs_wrong (main_count + length mains) m aux_count auxs
