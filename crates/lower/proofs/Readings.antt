-- What the loops find in the tables is what the definitions say. Assumes nothing.
use Rattle.std.specs.Prelude.{if◌then◌else◌}
use Prim.Native.Nat.{ℕ, suc, ◌<◌, ◌≤◌}
use mathlib.Core.Path.{◌≡◌, refl, sym, ◌∙◌, ap}
use mathlib.Core.Logic.{inl, inr}
use mathlib.Core.Bool.{Bool, true, false, ◌&&◌, ◌||◌, not}
use mathlib.Core.List.{List, [], ◌∷◌, map}
use native.Mathlib.Omega.{arith}
use lib.ListN.{length}
use lib.Dec.{ltb, leb}
use borrow.Author.Tests.{ltb-true, ltb-false, leb-false, lt-ltb, not-true}
use Rattle.layout.specs.Lists.{up_to, In, any, keep}
use Rattle.layout.specs.Words.{used, registered}
use Rattle.layout.specs.Tree.{tree}
use Rattle.layout.specs.NotCircuit.{not_circuit, bad_id}
use Rattle.circuit.specs.Rank.{at}
use Rattle.layout.proofs.Tests.{any_at}
use Rattle.layout.proofs.Lists.{and-true}
use Rattle.walking.specs.Paths.{walks, paths}
use Rattle.paths.specs.Counting.{PathCounts}
use Rattle.paths.proofs.Below.{any_walks, root_below, paths_in, any_some}
use Rattle.reading.specs.Readings.{degree⁺, above}
use Rattle.reading.specs.Refusals.{over_degree}
use Rattle.lowering.specs.Lowering.{below_above, M, too_high, candidates, best}
use Rattle.lowering.specs.Refusals.{loose, over_occurrences}
use Rattle.lower.specs.Tables.{Degrees, above_in, is_high_in, high_in, is_candidate_in, candidate_in, best_in, is_loose_in, is_over_in}
use Rattle.lowering.proofs.ListLaws.{any_false, in_up_to}
use Rattle.lower.proofs.Seen.{ltb_same}

-- tests that agree on a list

pub any_same : (p q : ℕ → Bool) (xs : List ℕ) → ((i : ℕ) → In i xs → p i ≡ q i) → any p xs ≡ any q xs
unfolding any
any_same p q [] h = refl
any_same p q (x ∷ xs) h = rw (h x (inl refl), any_same p q xs (λ i k. h i (inr k)))

kept_same : {A : Type 0} (f g : ℕ → A) (p q : ℕ → Bool) (xs : List ℕ) → ((i : ℕ) → In i xs → p i ≡ q i) → ((i : ℕ) → In i xs → q i ≡ true → f i ≡ g i) → map f (keep p xs) ≡ map g (keep q xs)
unfolding keep
kept_same f g p q [] h k = refl
kept_same f g p q (x ∷ xs) h k = rw (h x (inl refl)) (go (q x) refl (kept_same f g p q xs (λ i l. h i (inr l)) (λ i l. k i (inr l))))
  where
    go : (b : Bool) → q x ≡ b → map f (keep p xs) ≡ map g (keep q xs) → map f (if b then x ∷ keep p xs else keep p xs) ≡ map g (if b then x ∷ keep q xs else keep q xs)
    go true e rest = rw (k x (inl refl) e, rest)
    go false e rest = rest

keep_same : (p q : ℕ → Bool) (xs : List ℕ) → ((i : ℕ) → In i xs → p i ≡ q i) → keep p xs ≡ keep q xs
unfolding keep
keep_same p q [] h = refl
keep_same p q (x ∷ xs) h = rw (h x (inl refl), keep_same p q xs (λ i l. h i (inr l)))

-- some one passes where one is kept
any_kept : (p : ℕ → Bool) (xs : List ℕ) → ltb 0 (length (keep p xs)) ≡ any p xs
unfolding any keep
any_kept p [] = refl
any_kept p (x ∷ xs) = go (p x) (any_kept p xs)
  where
    go : (b : Bool) → ltb 0 (length (keep p xs)) ≡ any p xs → ltb 0 (length (if b then x ∷ keep p xs else keep p xs)) ≡ (b || any p xs)
    go true rest = lt-ltb 0 (suc (length (keep p xs))) (omega arith)
    go false rest = rest

below : (m roots : List ℕ) → bad_id m roots ≡ false → (r : ℕ) → In r roots → r < used m
unfolding bad_id
below m roots h r l = leb-false (used m) r (any_false (leb (used m)) roots h r l)

-- a count is above 0 where it is told so
positive : (m roots counts : List ℕ) → PathCounts m roots counts → (i : ℕ) → i < used m → ltb 0 (at counts i) ≡ ltb 0 (paths m roots i)
positive m roots counts c i l = let e = c.told i l in ltb_same 0 (at counts i) 0 (paths m roots i) (λ h. omega arith) (λ h. omega arith)

-- a count that is not above the bound is told exactly
pub exact : (m roots counts : List ℕ) → PathCounts m roots counts → (i : ℕ) → i < used m → ltb 4294967295 (at counts i) ≡ ltb 4294967295 (paths m roots i)
exact m roots counts c i l = let e = c.told i l in ltb_same 4294967295 (at counts i) 4294967295 (paths m roots i) (λ h. omega arith) (λ h. omega arith)

-- a loose node below a root
pub loose_is : (m roots counts : List ℕ) → not_circuit m ≡ false → bad_id m roots ≡ false → PathCounts m roots counts → any (is_loose_in m counts) (up_to (used m)) ≡ loose m roots
unfolding loose
loose_is m roots counts valid ids c =
    any_same (is_loose_in m counts) (λ i. ltb 0 (paths m roots i) && not (registered m i)) (up_to (used m))
    (λ i l. rw (positive m roots counts c i (in_up_to (used m) i l)))
    ∙ sym (any_walks m valid roots ids (λ i. not (registered m i)))

module _ (m degrees : List ℕ) (d⁺ : Degrees m degrees) where
  -- a degree below what is told apart, asked for of any node
  pub above_small : (d i : ℕ) → i < used m → d < 2147483648 → above_in degrees d i ≡ above d m i
  unfolding above
  above_small d i l s = let e = d⁺.told i l in ltb_same (suc d) (at degrees i) (suc d) (degree⁺ (tree m i)) (λ h. omega arith) (λ h. omega arith)

  -- any degree, asked for of a node within the bound
  above_bound : (d i : ℕ) → i < used m → above 2147483647 m i ≡ false → above_in degrees d i ≡ above d m i
  unfolding above
  above_bound d i l h =
      let e = d⁺.told i l in
      let b = ltb-false 2147483648 (degree⁺ (tree m i)) h in
      ltb_same (suc d) (at degrees i) (suc d) (degree⁺ (tree m i)) (λ k. omega arith) (λ k. omega arith)

  -- a degree up to the target is told exactly
  within : (target i : ℕ) → i < used m → target < 2147483648 → not (above target m i) ≡ true → at degrees i ≡ degree⁺ (tree m i)
  unfolding above
  within target i l s h =
      let e = d⁺.told i l in
      let b = ltb-false (suc target) (degree⁺ (tree m i)) (not-true _ h) in
      omega arith

  -- the nodes below the roots with a degree above d
  pub high_is : (roots counts : List ℕ) → PathCounts m roots counts → (d : ℕ) → d < 2147483648 → high_in degrees counts d (used m) ≡ below_above d m roots
  unfolding high_in below_above
  high_is roots counts c d s =
      keep_same (is_high_in degrees counts d) (λ i. ltb 0 (paths m roots i) && above d m i) (up_to (used m))
      (λ i l. rw (positive m roots counts c i (in_up_to (used m) i l), above_small d i (in_up_to (used m) i l) s))

  -- M
  pub heavy_is : (roots counts : List ℕ) → PathCounts m roots counts → length (high_in degrees counts 1 (used m)) ≡ M m roots
  unfolding M
  heavy_is roots counts c = ap length (high_is roots counts c 1 (omega arith))

  -- the paths from the high nodes to some node of degree above 1
  pub over-is : (target : ℕ) (roots occurrences : List ℕ) → PathCounts m (below_above target m roots) occurrences → any (is_over_in degrees occurrences) (up_to (used m)) ≡ over_occurrences target m roots
  unfolding over_occurrences
  over-is target roots occurrences c =
      any_same (is_over_in degrees occurrences) (λ i. above 1 m i && ltb 4294967295 (paths m (below_above target m roots) i)) (up_to (used m))
      (λ i l. rw (above_small 1 i (in_up_to (used m) i l) (omega arith), exact m (below_above target m roots) occurrences c i (in_up_to (used m) i l)))

  -- the choice, where no count is above the bound
  pub best-is : (target : ℕ) (roots occurrences : List ℕ) → target < 2147483648 → PathCounts m (below_above target m roots) occurrences → over_occurrences target m roots ≡ false → best_in degrees occurrences target (used m) ≡ best (candidates target m roots)
  unfolding best_in candidates over_occurrences
  best-is target roots occurrences s c h =
      ap best
      (kept_same (candidate_in degrees occurrences) (λ i. record { id = i; degree = degree⁺ (tree m i); occurrences = paths m (below_above target m roots) i })
      (is_candidate_in degrees target) (λ i. above 1 m i && not (above target m i)) (up_to (used m))
      (λ i l. rw (above_small 1 i (in_up_to (used m) i l) (omega arith), above_small target i (in_up_to (used m) i l) s))
      (λ i l t. entry i (in_up_to (used m) i l) (and-true (above 1 m i) (not (above target m i)) t)))
    where
      small : (i : ℕ) → above 1 m i ≡ true → (above 1 m i && ltb 4294967295 (paths m (below_above target m roots) i)) ≡ false → paths m (below_above target m roots) i ≤ 4294967295
      small i e f = ltb-false 4294967295 (paths m (below_above target m roots) i) (rw e at f)

      entry : (i : ℕ) → i < used m → ((above 1 m i ≡ true) × (not (above target m i) ≡ true)) → candidate_in degrees occurrences i ≡ record { id = i; degree = degree⁺ (tree m i); occurrences = paths m (below_above target m roots) i }
      entry i l t =
          let k = small i t.0 (any_at (λ j. above 1 m j && ltb 4294967295 (paths m (below_above target m roots) j)) (used m) i l h) in
          let o : at occurrences i ≡ paths m (below_above target m roots) i = let e = c.told i l in omega arith in
          let d : at degrees i ≡ degree⁺ (tree m i) = within target i l s t.1 in
          rw (o, d)

  module _ (roots : List ℕ) (valid : not_circuit m ≡ false) (ids : bad_id m roots ≡ false) where
    -- a degree over the bound
    pub over_degree_is : (counts : List ℕ) → PathCounts m roots counts → ltb 0 (length (high_in degrees counts 2147483647 (used m))) ≡ over_degree m roots
    unfolding over_degree below_above
    over_degree_is counts c =
        ap (λ (l : List ℕ). ltb 0 (length l)) (high_is roots counts c 2147483647 (omega arith))
        ∙ any_kept (λ i. ltb 0 (paths m roots i) && above 2147483647 m i) (up_to (used m))
        ∙ sym (any_walks m valid roots ids (above 2147483647 m))

    module _ (bounded : over_degree m roots ≡ false) where
      bound_root : (r : ℕ) → In r roots → above 2147483647 m r ≡ false
      unfolding over_degree
      bound_root r l = any_false (above 2147483647 m) (walks m roots) bounded r (paths_in m roots r (root_below m valid roots ids r l))

      -- some root's degree exceeds the target
      pub too_high_is : (target : ℕ) → any (above_in degrees target) roots ≡ too_high target m roots
      unfolding too_high
      too_high_is target = any_same (above_in degrees target) (above target m) roots (λ r l. above_bound target r (below m roots ids r l) (bound_root r l))

-- a root over the target, and none over the bound: the target is small
pub small_target : (m roots : List ℕ) → not_circuit m ≡ false → bad_id m roots ≡ false → over_degree m roots ≡ false → (target : ℕ) → too_high target m roots ≡ true → target < 2147483648
unfolding too_high above over_degree
small_target m roots valid ids bounded target h =
    let s = any_some (above target m) roots h in
    let a = ltb-true (suc target) (degree⁺ (tree m s.id)) s.passes in
    let b = ltb-false 2147483648 (degree⁺ (tree m s.id)) (any_false (above 2147483647 m) (walks m roots) bounded s.id (paths_in m roots s.id (root_below m valid roots ids s.id s.stands))) in
    omega arith
