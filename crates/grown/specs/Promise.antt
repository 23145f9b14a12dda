-- Demand 3 for grown circuits: what an accepted lowering promises. Assumes nothing.
--   "Exactly one choice of values for the new columns makes every new constraint zero, and under it each lowered root has the value its original had."
use Rattle.std.specs.Prelude.{ℕ, ◌+◌, ◌-◌, ◌≤◌, ◌<◌, ◌≡◌, ◌≢◌, ◌⊎◌, true, false, List, [], ◌++◌, length, get_or, ltb, if◌then◌else◌}
use Rattle.arithmetic.specs.declared.Triple.{Triple}
use Rattle.arithmetic.specs.Base.{p, minus_one}
use Rattle.arithmetic.specs.Extension.{Canonical}
use Rattle.layout.specs.declared.node.Position.{Position}
use Rattle.layout.specs.declared.node.Position.TheVariants.{Main, Aux}
use Rattle.layout.specs.declared.node.Op.TheVariants.{Add, Multiply}
use Rattle.layout.specs.declared.node.Expression.TheVariants.{Base, Operation, Input}
use Rattle.layout.specs.Lists.{In}
use Rattle.layout.specs.Words.{used, expression_at}
use Rattle.reading.specs.Readings.{Assignment, above}
use Rattle.lowering.specs.Lowering.{Lowering, M, too_high}
use Rattle.lowering.specs.Demand.{Cells, Vanish, values_of}
use Rattle.grown.specs.Grown.{Grown}

-- a choice of values for k new main columns and l new auxiliary ones: of the base field in main ones, of the extension in auxiliary ones
pub record NewValues (k l : ℕ) : Type 0 where
  pub main : List ℕ
  pub aux : List Triple
  pub main_count : length main ≡ k
  pub aux_count : length aux ≡ l
  pub base : (w : ℕ) → In w main → w < p
  pub extension : (x : Triple) → In x aux → Canonical x

-- a row with new values from the column `first` on
abbrev pub row : {A : Type 0} → ℕ → List A → (ℕ → A) → ℕ → A
row first new old c = if ltb c first then old c else get_or new (c - first) (old c)

-- the new values in the current row, from the counts on; all else is as it was
abbrev pub with_new : ℕ → ℕ → Assignment → List ℕ → List Triple → Assignment
with_new main_count aux_count a main aux =
    record {
      main = row main_count main a.main;
      aux = row aux_count aux a.aux;
      next_main = a.next_main;
      next_aux = a.next_aux;
      challenges = a.challenges;
    }

-- node q is (the input at y) - (a node): the sum of that input and a product of -1 and the node, each in either order
pub record Difference (m : List ℕ) (y : Position) (q : ℕ) : Type 0 where
  pub input : ℕ
  pub product : ℕ
  pub minus : ℕ
  pub chosen : ℕ
  pub is_input : expression_at m input ≡ Input y
  pub is_minus : expression_at m minus ≡ Base minus_one
  pub is_product : (expression_at m product ≡ Operation Multiply minus chosen) ⊎ (expression_at m product ≡ Operation Multiply chosen minus)
  pub is_sum : (expression_at m q ≡ Operation Add input product) ⊎ (expression_at m q ≡ Operation Add product input)

-- m and roots: the circuit and the roots before. after: the circuit, the roots and the two lists of new constraints
module _ (main_count aux_count : ℕ) (m roots : List ℕ) (after : Lowering) where
  -- whatever the other cells and the challenges hold, here a (what a holds in the new cells doesn't count)
  pub record ExactlyOne (a : Assignment) : Type 0 where
    pub values : NewValues (length after.main) (length after.aux)
    -- makes every listed constraint zero
    pub zeros : Vanish after.circuit (after.main ++ after.aux) (with_new main_count aux_count a values.main values.aux)
    -- under it every root has the value its original had before
    pub keeps : values_of (with_new main_count aux_count a values.main values.aux) after.circuit after.roots ≡ values_of a m roots
    -- and no other choice makes every listed constraint zero
    pub only : (other : NewValues (length after.main) (length after.aux)) → Vanish after.circuit (after.main ++ after.aux) (with_new main_count aux_count a other.main other.aux)
        → (other.main ≡ values.main) × (other.aux ≡ values.aux)

pub record Promise (target main_count aux_count : ℕ) (m roots : List ℕ) (after : Lowering) : Type 0 where
  -- for every assignment of base-field values to main cells and extension values to auxiliary cells and challenges, current and next row
  pub exactly_one : (a : Assignment) → Cells a → ExactlyOne main_count aux_count m roots after a
  -- no returned root and no listed constraint exceeds the target
  pub degrees : (i : ℕ) → In i (after.roots ++ (after.main ++ after.aux)) → above target after.circuit i ≡ false
  -- no new column where the degree was within target; otherwise their number is below M
  pub no_new : too_high target m roots ≡ false → (after.main ≡ []) × (after.aux ≡ [])
  pub fewer : too_high target m roots ≡ true → length after.main + length after.aux < M m roots
  -- new columns are numbered upward from the counts: constraint k of a list is (the input at the column count + k) - (a node)
  pub main_columns : (k : ℕ) → k < length after.main → Difference after.circuit (Main (main_count + k)) (get_or after.main k 0)
  pub aux_columns : (k : ℕ) → k < length after.aux → Difference after.circuit (Aux (aux_count + k)) (get_or after.aux k 0)
  -- no used node of the original read any of them in the current row
  pub main_unread : (c : ℕ) → main_count ≤ c → c < main_count + length after.main → (i : ℕ) → i < used m → expression_at m i ≢ Input (Main c)
  pub aux_unread : (c : ℕ) → aux_count ≤ c → c < aux_count + length after.aux → (i : ℕ) → i < used m → expression_at m i ≢ Input (Aux c)
  -- what it leaves is a grown circuit again
  pub grown-again : Grown after.circuit
