-- The refusals of a lowering, as the two groups of tests give them, and the tests as the tables give them. Assumes nothing.
use Rattle.std.specs.Prelude.{ℕ, ◌+◌, ◌≡◌, Bool, false, ◌&&◌, ◌||◌, List, [], ◌∷◌, ltb}
use Rattle.layout.specs.Lists.{any, up_to}
use Rattle.layout.specs.Words.{used, expression_at}
use Rattle.layout.specs.NotCircuit.{not_circuit, bad_id}
use Rattle.layout.specs.Outcomes.{refusal}
use Rattle.walking.specs.Paths.{paths}
use Rattle.reading.specs.Refusals.{over_degree}
use Rattle.lowering.specs.Lowering.{M}
use Rattle.lowering.specs.Refusals.{input_at_or_above, full_lowering, bad_columns, loose, over_occurrences}
use Rattle.lower.specs.Tables.{above_in, high_in}

-- 1, 8, 2, 11
unfoldable pub first_refusal : ℕ → List ℕ → List ℕ → ℕ
first_refusal target m roots = refusal ((1, not_circuit m) ∷ (8, ltb target 2) ∷ (2, bad_id m roots) ∷ (11, over_degree m roots) ∷ [])

-- 10, 9, 12, 6, 13
abbrev pub then_tests : Bool → Bool → Bool → Bool → Bool → List (ℕ × Bool)
then_tests loose columns paths full room = (10, loose) ∷ (9, columns) ∷ (12, paths) ∷ (6, full) ∷ (13, room) ∷ []

-- of a lowering, whose lists have so many places
unfoldable pub then_refusal : ℕ → ℕ → ℕ → ℕ → ℕ → List ℕ → List ℕ → ℕ
then_refusal target main_count aux_count main_room aux_room m roots =
    refusal
    (then_tests (loose m roots) (bad_columns main_count aux_count m roots) (over_occurrences target m roots) (full_lowering m roots)
    (ltb main_room (M m roots) || ltb aux_room (M m roots)))

-- the first group passed
pub record Passed (m roots : List ℕ) : Type 0 where
  pub valid : not_circuit m ≡ false
  pub ids : bad_id m roots ≡ false
  pub degree : over_degree m roots ≡ false

-- COLUMNS, of so many ids of degree above 1
unfoldable pub columns_for : ℕ → ℕ → List ℕ → ℕ → Bool
columns_for main_count aux_count m heavy =
    any (λ i. input_at_or_above main_count aux_count (expression_at m i)) (up_to (used m)) || (ltb 65536 (main_count + heavy) || ltb 65536 (aux_count + heavy))

-- PATHS, with the high nodes from the tables
unfoldable pub over_from : List ℕ → List ℕ → List ℕ → ℕ → Bool
over_from m degrees counts target = any (λ i. above_in degrees 1 i && ltb 4294967295 (paths m (high_in degrees counts target (used m)) i)) (up_to (used m))
