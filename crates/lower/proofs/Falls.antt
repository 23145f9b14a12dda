-- After a substitution no degree is higher and no node occurs more often: DEGREE and PATHS, tested at the start, hold to the end. Assumes nothing.
use Rattle.std.specs.Prelude.{if◌then◌else◌, Some}
use Prim.Native.Nat.{ℕ, zero, suc, ◌+◌, ◌-◌, ◌<◌, ◌≤◌}
use mathlib.Core.Path.{◌≡◌, refl, sym, ◌∙◌, ap}
use mathlib.Core.Logic.{◌≢◌, ◌⊎◌, inl, inr}
use mathlib.Core.Bool.{Bool, true, false, ◌&&◌}
use mathlib.Core.List.{List, [], ◌∷◌, ◌++◌}
use native.Mathlib.Nat.{add-suc, add-zero}
use native.Mathlib.Omega.{arith}
use lib.Dec.{ltb}
use borrow.Author.Tests.{ltb-true, ltb-false, ne_eqb}
use Rattle.layout.specs.declared.node.Position.{Position}
use Rattle.layout.specs.Lists.{up_to, any, keep, count}
use Rattle.layout.specs.Words.{used}
use Rattle.layout.specs.Tree.{input_leaf, Tree, leaf, branch, tree}
use Rattle.layout.proofs.Tests.{is_false, any_at, any_none}
use Rattle.layout.proofs.Lists.{and-true, clash}
use Rattle.walking.specs.Paths.{walk, walks, paths}
use Rattle.paths.proofs.Walks.{count-append, from, paths_none, paths_more}
use Rattle.paths.proofs.Below.{any_in, any_some, paths_in}
use Rattle.reading.specs.Readings.{degree⁺, above}
use Rattle.reading.specs.Refusals.{over_degree}
use Rattle.lowering.specs.Lowering.{Lowering, below_above}
use Rattle.lowering.specs.Refusals.{over_occurrences}
use Rattle.lowering.proofs.Shape.{leaf_e, op_e, Shape, lf, Look, deg}
use Rattle.lowering.proofs.Steps.{Moved, Move, Below}
use Rattle.lowering.proofs.Unfold.{deg_sub}
use Rattle.lowering.proofs.OneStep.{tree_after}
use Rattle.lowering.proofs.Count.{unf_some, below_tree, below_after}
use Rattle.lowering.proofs.ListLaws.{in_keep}
use Rattle.lowering.proofs.Words.{look, look_lt, Tru, tree_of}
use Rattle.lowering.proofs.Chooses.{degree_is, above_true, above_yes, walk_below, in_walks, below_walks, walks_below, paths_below, in_high, high_in_lem}
use Rattle.lowering.proofs.OneMore.{State, OneMore, state_after}
use Rattle.lower.proofs.Selects.{keep_more}

-- the new input's walk is the input itself
pub leaf_walk : (c : Look) (t : Tree) (n z : ℕ) (y : Position) → Tru c t n → c n ≡ Some (leaf_e (input_leaf y)) → z ≢ n → count z (walk t) ≡ 0
unfolding walk count
leaf_walk c (leaf j a) n z y (e, p) q h = rw (ne_eqb z j (λ k. h (k ∙ e)))
leaf_walk c (branch j o a b) n z y (e, l, r, p, v, w) q h = absurd (let x : ◌≡◌ {A = ℕ} 0 1 = cc in omega arith)

-- a walk meets nothing more often than before, but the new input
walk_falls : {c c' : Look} {s n : ℕ} {y : Position} {u : Shape} → Move c c' s n y u → (t t' : Tree) (i z : ℕ) → Tru c t i → Tru c' t' i → z ≢ n → count z (walk t') ≤ count z (walk t)
unfolding walk count
walk_falls {c} {c'} {s} {n} {y} {u} move (leaf j a) (leaf k b) i z (e, p) (f, q) h = let g : k ≡ j = f ∙ sym e in rw g (omega arith)
walk_falls {c} {c'} {s} {n} {y} {u} move (leaf j a) (branch k o x x') i z (e, p) (f, l, r, q, v, w) h =
    let (e', p', g) = move.old i (leaf_e a) p in
    absurd (let x : ◌≡◌ {A = ℕ} 0 1 = cc in omega arith)
walk_falls {c} {c'} {s} {n} {y} {u} move (branch j o a b) (leaf k x) i z (e, l, r, p, v, w) (f, q) h =
    let (e', p', (l', r', g, ml, mr)) = move.old i (op_e o l r) p in
    absurd (let x : ◌≡◌ {A = ℕ} 0 1 = cc in omega arith)
walk_falls {c} {c'} {s} {n} {y} {u} move (branch j o a b) (branch k o' a' b') i z (e, l, r, p, v, w) (f, l₁, r₁, q, v₁, w₁) h =
    let (e', p', (l', r', g, ml, mr)) = move.old i (op_e o l r) p in
    let el : l₁ ≡ l' = cc in
    let er : r₁ ≡ r' = cc in
    let ek : k ≡ j = f ∙ sym e in
    let fl = part l l₁ a a' (rw el ml) v₁ (λ w₀. walk_falls move a a' l z v w₀ h) in
    let fr = part r r₁ b b' (rw er mr) w₁ (λ w₀. walk_falls move b b' r z w w₀ h) in
    let x₀ = count-append z (walk a) (j ∷ walk b) in
    let x₁ = count-append z (walk a') (k ∷ walk b') in
    rw (x₀, x₁, ek) (omega arith)
  where
    part : (l l₁ : ℕ) (a a' : Tree) → Moved s n l l₁ → Tru c' a' l₁ → (Tru c' a' l → count z (walk a') ≤ count z (walk a)) → count z (walk a') ≤ count z (walk a)
    part l l₁ a a' (inl k) t rest = rest (rw k at t)
    part l l₁ a a' (inr (k, k')) t rest = let g = leaf_walk c' a' n z y (rw k' at t) move.new h in omega arith

-- fewer starts and fewer paths from each
paths_fall : (m m₁ : List ℕ) (p p₁ : ℕ → Bool) (z : ℕ) (xs : List ℕ) → ((i : ℕ) → p₁ i ≡ true → (p i ≡ true) × (from m₁ i z ≤ from m i z)) → paths m₁ (keep p₁ xs) z ≤ paths m (keep p xs) z
unfolding keep
paths_fall m m₁ p p₁ z [] h = omega (arith, paths_none m z, paths_none m₁ z)
paths_fall m m₁ p p₁ z (i ∷ xs) h = go (p₁ i) (p i) refl refl (paths_fall m m₁ p p₁ z xs h)
  where
    go : (b₁ b : Bool) → p₁ i ≡ b₁ → p i ≡ b → paths m₁ (keep p₁ xs) z ≤ paths m (keep p xs) z → paths m₁ (if b₁ then i ∷ keep p₁ xs else keep p₁ xs) z ≤ paths m (if b then i ∷ keep p xs else keep p xs) z
    go true true e f rest = omega (arith, paths_more m i (keep p xs) z, paths_more m₁ i (keep p₁ xs) z, (h i e).1)
    go true false e f rest = clash (p i) (h i e).0 f
    go false true e f rest = omega (arith, paths_more m i (keep p xs) z)
    go false false e f rest = rest

-- nothing is kept beyond n
pub keep_short : (p : ℕ → Bool) (n k : ℕ) → ((i : ℕ) → n ≤ i → p i ≡ false) → keep p (up_to (n + k)) ≡ keep p (up_to n)
keep_short p n zero h = rw add-zero
keep_short p n (suc k) h = rw (add-suc, keep_more p (n + k), h (n + k) (omega arith)) (append_nothing (keep p (up_to (n + k))) ∙ keep_short p n k h)
  where
    append_nothing : (xs : List ℕ) → xs ++ [] ≡ xs
    append_nothing [] = refl
    append_nothing (x ∷ xs) = ap (λ (l : List ℕ). x ∷ l) (append_nothing xs)

module _ (T mc ac : ℕ) (two : 2 ≤ T) (x x₁ : Lowering) (state : State mc ac x) (one : OneMore T mc ac x x₁) where
  abbrev m : List ℕ
  m = x.circuit

  abbrev m₁ : List ℕ
  m₁ = x₁.circuit

  after : State mc ac x₁
  after = state_after T mc ac x x₁ state one

  move : Move (look m) (look m₁) one.s one.n one.y one.u
  move = one.st.step.move

  new_degree : degree⁺ (tree m₁ one.n) ≡ 2
  new_degree = degree_is m₁ (lf (input_leaf one.y)) one.n move.new

  -- below the roots after, and not the new input: it was there before, and its degree was no lower
  pub high_before : (d i : ℕ) → 1 ≤ d → Below (look m₁) x₁.roots i → suc (suc d) ≤ degree⁺ (tree m₁ i) → Below (look m) x.roots i × ((suc (suc d) ≤ degree⁺ (tree m i)) × (i ≢ one.n))
  high_before d i pos b h = go (below_after one.st x.roots state.regs state.rooted i (rw one.to at b))
    where
      other : i ≢ one.n
      other e = omega (arith, ap (λ (j : ℕ). degree⁺ (tree m₁ j)) e, new_degree)

      go : (i ≡ one.n) ⊎ (Below (look m) x.roots i × (i ≢ one.s)) → Below (look m) x.roots i × ((suc (suc d) ≤ degree⁺ (tree m i)) × (i ≢ one.n))
      go (inl e) = absurd (other e)
      go (inr (k, _)) =
          let (t, w) = below_tree state.rooted i k in
          let (t', w', g) = tree_after move t i w in
          let low = one.choice.low in
          (k, (omega (arith, degree_is m t i w, degree_is m₁ t' i w', deg_sub one.y one.u t' (omega arith), ap deg g), other))

  -- no degree over the bound
  pub degree_after_lem : over_degree m x.roots ≡ false → over_degree m₁ x₁.roots ≡ false
  unfolding over_degree
  degree_after_lem h = is_false (any (above 2147483647 m₁) (walks m₁ x₁.roots)) (λ t.
      let s = any_some (above 2147483647 m₁) (walks m₁ x₁.roots) t in
      let (b, (d, _)) = high_before 2147483647 s.id (omega arith) (walks_below m₁ x₁.roots after.rooted s.id s.stands) (above_true 2147483647 m₁ s.id s.passes) in
      clash (any (above 2147483647 m) (walks m x.roots)) (any_in (above 2147483647 m) (walks m x.roots) s.id (below_walks m x.roots state.rooted s.id b) (above_yes 2147483647 m s.id d)) h)

  has_tree : (i : ℕ) → Below (look m) x.roots i → i < used m
  has_tree i b = let (t, w) = below_tree state.rooted i b in let (e, p) = unf_some (look m) t i w in look_lt m i e p

  pub from_falls : (i z : ℕ) → Below (look m) x.roots i → z ≢ one.n → from m₁ i z ≤ from m i z
  from_falls i z b h =
      let (t, w) = below_tree state.rooted i b in
      let (t', w', g) = tree_after move t i w in
      walk_falls move (tree m i) (tree m₁ i) i z (tree_of m t i w) (tree_of m₁ t' i w') h

  -- no node but the new input occurs more often
  pub occurrences_fall : (z : ℕ) → z ≢ one.n → paths m₁ (below_above T m₁ x₁.roots) z ≤ paths m (below_above T m x.roots) z
  unfolding below_above
  occurrences_fall z h =
      let grows = one.grows in
      let e : used m + (used m₁ - used m) ≡ used m₁ = omega arith in
      rw (← e, keep_short high₁ (used m) (used m₁ - used m) none_new)
      (paths_fall m m₁ high high₁ z (up_to (used m)) (λ i k. let (b, (d, _)) = before i k in (yes i b d, from_falls i z b h)))
    where
      high : ℕ → Bool
      high = λ i. ltb 0 (paths m x.roots i) && above T m i

      high₁ : ℕ → Bool
      high₁ = λ i. ltb 0 (paths m₁ x₁.roots i) && above T m₁ i

      before : (i : ℕ) → high₁ i ≡ true → Below (look m) x.roots i × ((suc (suc T) ≤ degree⁺ (tree m i)) × (i ≢ one.n))
      before i k =
          let (p, q) = and-true (ltb 0 (paths m₁ x₁.roots i)) (above T m₁ i) k in
          high_before T i (omega arith) (paths_below m₁ x₁.roots after.rooted i (ltb-true 0 (paths m₁ x₁.roots i) p)) (above_true T m₁ i q)

      yes : (i : ℕ) → Below (look m) x.roots i → suc (suc T) ≤ degree⁺ (tree m i) → high i ≡ true
      yes i b d = (in_keep high (up_to (used m)) i (in_high m x.roots state.rooted T i b d)).1

      none_new : (i : ℕ) → used m ≤ i → high₁ i ≡ false
      none_new i l = is_false (high₁ i) (λ k. let (b, _) = before i k in omega (arith, has_tree i b))

  -- no occurrences over the bound
  pub occurrences_after : over_occurrences T m x.roots ≡ false → over_occurrences T m₁ x₁.roots ≡ false
  unfolding over_occurrences
  occurrences_after h =
      any_none (λ i. above 1 m₁ i && ltb 4294967295 (paths m₁ (below_above T m₁ x₁.roots) i)) (used m₁)
      (λ i l. is_false (above 1 m₁ i && ltb 4294967295 (paths m₁ (below_above T m₁ x₁.roots) i)) (λ t.
      let (a, o) = and-true (above 1 m₁ i) (ltb 4294967295 (paths m₁ (below_above T m₁ x₁.roots) i)) t in
      let many = ltb-true 4294967295 (paths m₁ (below_above T m₁ x₁.roots) i) o in
      let (b, (d, n)) = high_before 1 i (omega arith) (below_high i (omega arith)) (above_true 1 m₁ i a) in
      let k = any_at (λ j. above 1 m j && ltb 4294967295 (paths m (below_above T m x.roots) j)) (used m) i (has_tree i b) h in
      let few = ltb-false 4294967295 (paths m (below_above T m x.roots) i) (rw (above_yes 1 m i d) at k) in
      omega (arith, occurrences_fall i n)))
    where
      below_high : (i : ℕ) → 0 < paths m₁ (below_above T m₁ x₁.roots) i → Below (look m₁) x₁.roots i
      below_high i l =
          let (r, a, b) = in_walks m₁ (below_above T m₁ x₁.roots) i (paths_in m₁ (below_above T m₁ x₁.roots) i l) in
          let k = high_in_lem m₁ x₁.roots after.rooted T r a in
          let (t, w) = below_tree after.rooted r k in
          walk_below (look m₁) x₁.roots (tree m₁ r) r (tree_of m₁ t r w) k i b
