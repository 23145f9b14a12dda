-- The degrees below a list of roots: which is over the bound, and which is the highest. Assumes nothing.
use Prim.Native.Nat.{ℕ, ◌<◌, ◌≤◌, min, max}
use mathlib.Core.Path.{◌≡◌, refl, sym, ap, ◌∙◌}
use mathlib.Core.Logic.{inl, inr, ⊎_elim}
use mathlib.Core.Bool.{Bool, false, ◌&&◌}
use mathlib.Core.List.{List, [], ◌∷◌, map, foldr}
use native.Mathlib.Omega.{arith}
use lib.IntN.{pos}
use lib.Dec.{ltb, eqb}
use borrow.Author.Tests.{lt-ltb, le-ltb, eq-eqb, ne_eqb}
use Rattle.layout.specs.Lists.{In, any, up_to}
use Rattle.layout.specs.Words.{used}
use Rattle.layout.specs.Tree.{tree}
use Rattle.layout.specs.NotCircuit.{not_circuit, bad_id}
use Rattle.layout.specs.Calls.{reading}
use Rattle.circuit.specs.Rank.{at}
use Rattle.layout.proofs.Tests.{below_or}
use Rattle.layout.proofs.Lists.{clash}
use Rattle.walking.specs.Paths.{walks, paths}
use Rattle.paths.specs.Counting.{PathCounts}
use Rattle.paths.proofs.Below.{any_in, any_walks, paths_in, root_below, walks_below}
use Rattle.paths.proofs.Counts.{counts-test}
use Rattle.reading.specs.Readings.{degree⁺, signed, above, highest⁺}
use Rattle.reading.specs.Refusals.{over_degree}
use Rattle.reading.specs.Calls.{degree_call, highest_call}
use Rattle.read.specs.Tables.{Filled}
use Rattle.read.specs.Degrees.{top, degree_to, over_at}
use Rattle.read.proofs.Lists.{any_same, map_same}

-- a test over the nodes that have a path count is one over the walks
pub any_below : (m roots counts : List ℕ) → not_circuit m ≡ false → bad_id m roots ≡ false → PathCounts m roots counts → (f g : ℕ → Bool) → ((i : ℕ) → i < used m → f i ≡ g i) → any (λ i. ltb 0 (at counts i) && f i) (up_to (used m)) ≡ any g (walks m roots)
any_below m roots counts v k c f g h =
    any_same (λ i. ltb 0 (at counts i) && f i) (λ i. ltb 0 (paths m roots i) && g i) (used m) (λ i l. rw (counts-test m roots counts c i l 0 (omega arith), h i l))
    ∙ sym (any_walks m v roots k g)

-- a degree over the bound isn't told apart from the least such
capped_over : (d : ℕ) → eqb (min top d) top ≡ ltb 2147483648 d
capped_over d = ⊎_elim (λ l. ne_eqb (min top d) top (omega arith) ∙ sym (le-ltb 2147483648 d (omega arith))) (λ l. eq-eqb (min top d) top (omega arith) ∙ sym (lt-ltb 2147483648 d (omega arith))) (below_or d top)

module _ (m roots counts table : List ℕ) (valid : not_circuit m ≡ false) (ids : bad_id m roots ≡ false) (counted : PathCounts m roots counts) (filled : Filled (used m) (at table) (degree_to m)) where
  pub over_told : any (over_at counts table) (up_to (used m)) ≡ over_degree m roots
  unfolding over_degree above degree_to
  over_told = any_below m roots counts valid ids counted (λ i. eqb (at table i) top) (above 2147483647 m) (λ i l. rw (filled.told i l) (capped_over (degree⁺ (tree m i))))

  -- where none is over the bound, each root's entry is its degree
  module _ (fine : over_degree m roots ≡ false) where
    entry_degree : (r : ℕ) → In r roots → (at table r ≡ degree⁺ (tree m r)) × (degree⁺ (tree m r) ≤ top)
    unfolding over_degree above degree_to
    entry_degree r h =
        let s = paths_in m roots r (root_below m valid roots ids r h) in
        let e = filled.told r (walks_below m valid roots ids r s) in
        ⊎_elim
        (λ l. clash (any (above 2147483647 m) (walks m roots)) (any_in (above 2147483647 m) (walks m roots) r s (lt-ltb 2147483648 (degree⁺ (tree m r)) l)) fine)
        (λ l. (omega arith, omega arith))
        (below_or 2147483648 (degree⁺ (tree m r)))

    pub highest_told : foldr max 0 (map (at table) roots) ≡ highest⁺ m roots
    unfolding highest⁺
    highest_told = ap (foldr max 0) (map_same (at table) (λ i. degree⁺ (tree m i)) roots (λ r h. (entry_degree r h).0))

    pub highest_small : foldr max 0 (map (at table) roots) ≤ top
    highest_small = go roots (λ r h. let e = entry_degree r h in omega arith)
      where
        go : (xs : List ℕ) → ((x : ℕ) → In x xs → at table x ≤ top) → foldr max 0 (map (at table) xs) ≤ top
        go [] h = omega arith
        go (x ∷ xs) h = let a = h x (inl refl) in let b = go xs (λ y k. h y (inr k)) in omega arith

-- a node's degree is the highest of one root
pub degree_highest : (m : List ℕ) (i : ℕ) → highest_call m (i ∷ []) ≡ degree_call m i
unfolding highest_call degree_call highest⁺
degree_highest m i = ap (λ (d : ℕ). reading m (i ∷ []) ((11, over_degree m (i ∷ [])) ∷ []) (signed d) (pos 0)) (let d : max (degree⁺ (tree m i)) 0 ≡ degree⁺ (tree m i) = omega arith in d)
