-- The tests from the tables are the tests of the definitions. Assumes nothing.
use Prim.Native.Nat.{ℕ, ◌-◌, ◌*◌, ◌≤◌}
use mathlib.Core.Path.{◌≡◌, sym, ◌∙◌}
use mathlib.Core.Bool.{Bool, true, false, ◌&&◌, ◌||◌, not}
use mathlib.Core.List.{List}
use native.Mathlib.Omega.{arith}
use lib.Dec.{ltb}
use borrow.Author.Tests.{not-true, not-false}
use Rattle.layout.specs.Lists.{any, up_to}
use Rattle.layout.specs.Words.{used, limit}
use Rattle.layout.specs.NotCircuit.{not_circuit, bad_id}
use Rattle.layout.specs.Outcomes.{refusal}
use Rattle.walking.specs.Paths.{paths}
use Rattle.paths.specs.Counting.{PathCounts}
use Rattle.reading.specs.Refusals.{over_degree}
use Rattle.lowering.specs.Lowering.{M, too_high}
use Rattle.lowering.specs.Refusals.{full_lowering, bad_columns, loose, over_occurrences}
use Rattle.lower.specs.Tables.{above_in, high_in, Listed, is_loose_in, is_over_in}
use Rattle.lower.specs.Survey.{Surveyed}
use Rattle.lower.specs.Refusing.{then_tests, then_refusal, Passed, columns_for, over_from}
use Rattle.lowering.proofs.ListLaws.{in_up_to}
use Rattle.lower.proofs.Readings.{any_same, exact, above_small, high_is, heavy_is, over_degree_is, too_high_is, loose_is, small_target}
use Rattle.lower.proofs.Surveys.{high_few}

-- PATHS from the counts that are kept
pub over_from_lem : (m degrees counts found : List ℕ) (target : ℕ) → PathCounts m (high_in degrees counts target (used m)) found → any (is_over_in degrees found) (up_to (used m)) ≡ over_from m degrees counts target
unfolding over_from
over_from_lem m degrees counts found target c =
    any_same (is_over_in degrees found) (λ i. above_in degrees 1 i && ltb 4294967295 (paths m (high_in degrees counts target (used m)) i)) (up_to (used m))
    (λ i l. rw (exact m (high_in degrees counts target (used m)) found c i (in_up_to (used m) i l)))

-- DEGREE
pub degree_told : (m roots order rank degrees counts : List ℕ) (ok : (not_circuit m ≡ false) × (bad_id m roots ≡ false)) → Surveyed m roots order rank degrees counts → (list : List ℕ) (many : ℕ) → Listed (high_in degrees counts 2147483647 (used m)) list many → ltb 0 many ≡ over_degree m roots
degree_told m roots order rank degrees counts ok s list many l = rw l.many (over_degree_is m degrees s.all_degrees roots ok.0 ok.1 counts s.all_counts)

module _ (m roots order rank degrees counts : List ℕ) (p : Passed m roots) (s : Surveyed m roots order rank degrees counts) where
  pub high_told : (target : ℕ) → any (above_in degrees target) roots ≡ too_high target m roots
  high_told = too_high_is m degrees s.all_degrees roots p.valid p.ids p.degree

  loose_told : any (is_loose_in m counts) (up_to (used m)) ≡ loose m roots
  loose_told = loose_is m roots counts p.valid p.ids s.all_counts

  paths_told : (target : ℕ) → too_high target m roots ≡ true → over_from m degrees counts target ≡ over_occurrences target m roots
  unfolding over_from over_occurrences
  paths_told target h =
      rw (high_is m degrees s.all_degrees roots counts s.all_counts target (small_target m roots p.valid p.ids p.degree target h))
      (any_same _ _ (up_to (used m)) (λ i l. rw (above_small m degrees s.all_degrees 1 i (in_up_to (used m) i l) (omega arith))))

  module _ (list : List ℕ) (heavy : ℕ) (l : Listed (high_in degrees counts 1 (used m)) list heavy) where
    heavy_told : heavy ≡ M m roots
    heavy_told = l.many ∙ heavy_is m degrees s.all_degrees roots counts s.all_counts

    columns_told : (mc ac : ℕ) → columns_for mc ac m heavy ≡ bad_columns mc ac m roots
    unfolding columns_for bad_columns
    columns_told mc ac = rw heavy_told

    full_told : ltb (limit m - used m) (3 * heavy) ≡ full_lowering m roots
    unfolding full_lowering
    full_told = rw heavy_told

  -- no more of them than nodes
  pub heavy_few : (list : List ℕ) (heavy : ℕ) → used m ≤ 4096 → Listed (high_in degrees counts 1 (used m)) list heavy → heavy ≤ 4096
  heavy_few list heavy t l = omega (arith, l.many, high_few degrees counts 1 (used m))

-- the number, from what the tests told
pub then_told : (target mc ac mr ar : ℕ) (m roots order rank degrees counts : List ℕ) → Passed m roots × (too_high target m roots ≡ true) → Surveyed m roots order rank degrees counts → (list : List ℕ) (heavy : ℕ) → Listed (high_in degrees counts 1 (used m)) list heavy
    → (a b c d e : Bool) → a ≡ any (is_loose_in m counts) (up_to (used m)) → b ≡ columns_for mc ac m heavy → c ≡ over_from m degrees counts target → d ≡ ltb (limit m - used m) (3 * heavy) → e ≡ (ltb mr heavy || ltb ar heavy)
    → (r : ℕ) → r ≡ refusal (then_tests a b c d e) → r ≡ then_refusal target mc ac mr ar m roots
unfolding then_refusal
then_told target mc ac mr ar m roots order rank degrees counts (p, high) s list heavy l a b c d e pa pb pc pd pe r q =
    let k = heavy_told m roots order rank degrees counts p s list heavy l in
    let ea = pa ∙ loose_told m roots order rank degrees counts p s in
    let eb = pb ∙ columns_told m roots order rank degrees counts p s list heavy l mc ac in
    let ec = pc ∙ paths_told m roots order rank degrees counts p s target high in
    let ed = pd ∙ full_told m roots order rank degrees counts p s list heavy l in
    q ∙ rw (ea, eb, ec, ed, pe, k)

-- what the check told
pub circuit_yes : (m : List ℕ) (b : Bool) → b ≡ not (not_circuit m) → b ≡ true → not_circuit m ≡ false
circuit_yes m b e h = not-true (not_circuit m) (sym e ∙ h)

pub circuit_no : (m : List ℕ) (b : Bool) → b ≡ not (not_circuit m) → b ≡ false → not_circuit m ≡ true
circuit_no m b e h = not-false (not_circuit m) (sym e ∙ h)
