-- What stands at or below a chosen node never occurs again, unless its degree is below 2: it is quiet. What is quiet stays quiet, and isn't chosen. Assumes nothing.
use Rattle.std.specs.Prelude.{Some}
use Prim.Native.Nat.{ℕ, suc, ◌+◌, ◌-◌, ◌≤◌, ◌<◌}
use mathlib.Core.Path.{◌≡◌, refl, ◌∙◌, ap}
use mathlib.Core.Logic.{◌≢◌, ◌⊎◌, inl, inr}
use mathlib.Core.Bool.{Bool, true, false, ◌&&◌}
use mathlib.Core.List.{List, [], ◌∷◌}
use native.Mathlib.Decide.{dec_le}
use native.Mathlib.Omega.{arith}
use lib.Dec.{ltb}
use borrow.Author.Tests.{ltb-true}
use Rattle.layout.specs.Lists.{up_to, In}
use Rattle.layout.specs.Words.{used}
use Rattle.layout.specs.Tree.{Leaf, input_leaf, tree}
use Rattle.layout.proofs.Tests.{is_false}
use Rattle.walking.specs.Paths.{walk, paths}
use Rattle.paths.proofs.Walks.{from}
use Rattle.reading.specs.Readings.{degree⁺, above}
use Rattle.lowering.specs.Lowering.{Lowering, below_above, too_high}
use Rattle.lowering.proofs.Shape.{Expr, leaf_e, op_e, Shape, shape, Unf, size, deg}
use Rattle.lowering.proofs.Steps.{Kept, Move, Below, root}
use Rattle.lowering.proofs.Unfold.{deg_sub}
use Rattle.lowering.proofs.OneStep.{tree_after}
use Rattle.lowering.proofs.Count.{unf_some, below_tree}
use Rattle.lowering.proofs.Remains.{candidate_from}
use Rattle.lowering.proofs.ListLaws.{and-true, in_keep, count_in, in_count}
use Rattle.lowering.proofs.Words.{look, has_used, Tru, tree_of}
use Rattle.lowering.proofs.Chooses.{degree_is, above_true, walk_below, below_walk, paths_below, in_high, high_in_lem, chosen_occurs, chosen_most}
use Rattle.lowering.proofs.OneMore.{State, OneMore, state_after}
use Rattle.lower.proofs.Falls.{high_before, keep_short, occurrences_fall}
use Rattle.grown.proofs.Passing.{through, passes, not-below, walk-smaller}
use Rattle.grown.proofs.Occurs.{occurs, paths_pass, paths-less}

-- where z occurs, its degree is below 2
abbrev pub Quiet : ℕ → Lowering → ℕ → Type 0
Quiet T x z = 0 < occurs T x z → degree⁺ (tree x.circuit z) ≤ 2

module _ (T mc ac : ℕ) (two : 2 ≤ T) (x x₁ : Lowering) (state : State mc ac x) (one : OneMore T mc ac x x₁) (high : too_high T x.circuit x.roots ≡ true) where
  abbrev m : List ℕ
  m = x.circuit

  abbrev m₁ : List ℕ
  m₁ = x₁.circuit

  move : Move (look m) (look m₁) one.s one.n one.y one.u
  move = one.st.step.move

  after : State mc ac x₁
  after = state_after T mc ac x x₁ state one

  true_s : Tru (look m) (tree m one.s) one.s
  true_s = tree_of m one.u one.s one.choice.tree

  true_below : (i : ℕ) → Below (look m) x.roots i → Tru (look m) (tree m i) i
  true_below i b = let (t, w) = below_tree state.rooted i b in tree_of m t i w

  true_after : (i : ℕ) → Below (look m) x.roots i → Tru (look m₁) (tree m₁ i) i
  true_after i b = let (t, w) = below_tree state.rooted i b in let (t', w', e) = tree_after move t i w in tree_of m₁ t' i w'

  below_used : (i : ℕ) → Below (look m) x.roots i → i < used m
  below_used i b = let (t, w) = below_tree state.rooted i b in has_used m t i w

  -- an old node isn't the new input
  pub old_other : (z : ℕ) (e : Expr) → look m z ≡ Some e → z ≢ one.n
  old_other z e p h = let (e', p', k) = move.old z e p in go e e' p p' k
    where
      new : look m₁ z ≡ Some (leaf_e (input_leaf one.y))
      new = rw h move.new

      go : (e e' : Expr) → look m z ≡ Some e → look m₁ z ≡ Some e' → Kept one.s one.n e e' → ⊥
      go (leaf_e a) e' p p' k = let q : a ≡ input_leaf one.y = cc in move.fresh z (p ∙ ap (λ (l : Leaf). Some (leaf_e l)) q)
      go (op_e o l r) e' p p' (l', r', k, v, w) = let q : ◌≡◌ {A = ℕ} 0 1 = cc in omega arith

  -- what stands below the chosen node stands below the roots
  pub below_s : (z : ℕ) → In z (walk (tree m one.s)) → Below (look m) x.roots z
  below_s z h = walk_below (look m) x.roots (tree m one.s) one.s true_s one.choice.below z h

  s_degree : degree⁺ (tree m one.s) ≡ deg one.u
  s_degree = degree_is m one.u one.s one.choice.tree

  most : (z : ℕ) → z < used m → 3 ≤ degree⁺ (tree m z) → degree⁺ (tree m z) ≤ suc T → occurs T x z ≤ occurs T x one.s
  most z l a b = rw one.chosen (chosen_most T two m x.roots state.rooted high z l a b)

  pub s_occurs : 0 < occurs T x one.s
  s_occurs = rw one.chosen (chosen_occurs T two m x.roots state.rooted high)

  -- from any node, at least as many paths lead on to z as to the chosen node
  leads_on : (z : ℕ) → In z (walk (tree m one.s)) → (i : ℕ) → Below (look m) x.roots i → from m i one.s ≤ from m i z
  leads_on z h i b = through (look m) (tree m i) (tree m one.s) i one.s z (true_below i b) true_s h

  -- D: as many occurrences as the chosen node had are gone
  pub fewer_occur : (z : ℕ) → In z (walk (tree m one.s)) → occurs T x₁ z + occurs T x one.s ≤ occurs T x z
  unfolding below_above
  fewer_occur z h =
      let grows = one.grows in
      let e : used m + (used m₁ - used m) ≡ used m₁ = omega arith in
      rw (← e, keep_short high₁ (used m) (used m₁ - used m) none_new)
      (paths_pass m m₁ high₀ high₁ one.s z (up_to (used m)) (λ i k. leads_on z h i (was i k)) (λ i k. let (b, (d, _)) = before i k in (yes i b d, step i b d)))
    where
      high₀ : ℕ → Bool
      high₀ = λ i. ltb 0 (paths m x.roots i) && above T m i

      high₁ : ℕ → Bool
      high₁ = λ i. ltb 0 (paths m₁ x₁.roots i) && above T m₁ i

      was : (i : ℕ) → high₀ i ≡ true → Below (look m) x.roots i
      was i k = let (p, q) = and-true (ltb 0 (paths m x.roots i)) (above T m i) k in paths_below m x.roots state.rooted i (ltb-true 0 (paths m x.roots i) p)

      before : (i : ℕ) → high₁ i ≡ true → Below (look m) x.roots i × ((suc (suc T) ≤ degree⁺ (tree m i)) × (i ≢ one.n))
      before i k =
          let (p, q) = and-true (ltb 0 (paths m₁ x₁.roots i)) (above T m₁ i) k in
          high_before T mc ac two x x₁ state one T i (omega arith) (paths_below m₁ x₁.roots after.rooted i (ltb-true 0 (paths m₁ x₁.roots i) p)) (above_true T m₁ i q)

      yes : (i : ℕ) → Below (look m) x.roots i → suc (suc T) ≤ degree⁺ (tree m i) → high₀ i ≡ true
      yes i b d = (in_keep high₀ (up_to (used m)) i (in_high m x.roots state.rooted T i b d)).1

      step : (i : ℕ) → Below (look m) x.roots i → suc (suc T) ≤ degree⁺ (tree m i) → from m₁ i z + from m i one.s ≤ from m i z
      step i b d =
          let (t, w) = below_tree state.rooted z (below_s z h) in
          let (e, p) = unf_some (look m) t z w in
          let top = one.choice.high in
          passes one.st x.roots state.regs (tree m one.s) true_s z h (old_other z e p) (tree m i) (tree m₁ i) i b (λ q. omega (arith, s_degree, ap (λ (j : ℕ). degree⁺ (tree m j)) q)) (true_below i b) (true_after i b)

      none_new : (i : ℕ) → used m ≤ i → high₁ i ≡ false
      none_new i l = is_false (high₁ i) (λ k. let (b, _) = before i k in omega (arith, below_used i b))

  -- E: no high node stands below the chosen one: what is chosen from below it would occur more often
  pub none_high : (z : ℕ) → In z (walk (tree m one.s)) → degree⁺ (tree m z) ≤ suc T
  none_high z h = go (dec_le (suc (suc T)) (degree⁺ (tree m z)))
    where
      go : Dec (suc (suc T) ≤ degree⁺ (tree m z)) → degree⁺ (tree m z) ≤ suc T
      go (no k) = omega arith
      go (yes k) =
          let b : Below (look m) x.roots z = below_s z h in
          let (t, w) = below_tree state.rooted z b in
          let true-z : Tru (look m) (tree m z) z = tree_of m t z w in
          let (j, v, ch) = candidate_from T two (look m) (z ∷ []) t z w (root (inl refl)) (omega (arith, degree_is m t z w)) in
          let in-z : In j (walk (tree m z)) = below_walk (look m) (tree m z) z true-z j ch.below in
          let met : 0 < from m one.s j = omega (arith, count_in z (walk (tree m one.s)) h, through (look m) (tree m one.s) (tree m z) one.s z j true_s true-z in-z) in
          let in-s : In j (walk (tree m one.s)) = in_count j (walk (tree m one.s)) met in
          let more : occurs T x one.s < occurs T x j = paths-less m one.s j (below_above T m x.roots) (λ i q. leads_on j in-s i (high_in_lem m x.roots state.rooted T i q)) z (in_high m x.roots state.rooted T z b k) (omega (arith, count_in j (walk (tree m z)) in-z, none true-z)) in
          let d = degree_is m v j ch.tree in
          let low = ch.low in
          let top = ch.high in
          absurd (omega (arith, most j (has_used m v j ch.tree) (omega arith) (omega arith)))
        where
          smaller : (z ≡ one.s) ⊎ (size (shape (tree m z)) < size (shape (tree m one.s))) → size (shape (tree m z)) < size (shape (tree m one.s))
          smaller (inl e) = let top = one.choice.high in absurd (omega (arith, s_degree, ap (λ (i : ℕ). degree⁺ (tree m i)) e))
          smaller (inr q) = q

          none : Tru (look m) (tree m z) z → from m z one.s ≡ 0
          none true-z = not-below (look m) (tree m one.s) (tree m z) one.s z true_s true-z (smaller (walk-smaller (look m) (tree m one.s) (tree m z) one.s z true_s true-z h))

  -- no degree rises
  pub degree_falls : (t : Shape) (z : ℕ) → Unf (look m) t z → degree⁺ (tree m₁ z) ≤ degree⁺ (tree m z)
  degree_falls t z w =
      let (t', w', e) = tree_after move t z w in
      let low = one.choice.low in
      omega (arith, degree_is m t z w, degree_is m₁ t' z w', deg_sub one.y one.u t' (omega arith), ap deg e)

  -- what stands at or below the chosen node is quiet
  pub below_quiet : (z : ℕ) → In z (walk (tree m one.s)) → Quiet T x₁ z
  below_quiet z h some_left = go (dec_le 3 (degree⁺ (tree m z)))
    where
      go : Dec (3 ≤ degree⁺ (tree m z)) → degree⁺ (tree m₁ z) ≤ 2
      go (yes k) = absurd (omega (arith, most z (below_used z (below_s z h)) k (none_high z h), fewer_occur z h))
      go (no k) = let (t, w) = below_tree state.rooted z (below_s z h) in omega (arith, degree_falls t z w)

  -- what is quiet stays quiet
  pub quiet_kept : (t : Shape) (z : ℕ) → Unf (look m) t z → Quiet T x z → Quiet T x₁ z
  quiet_kept t z w q h =
      let (e, p) = unf_some (look m) t z w in
      omega (arith, degree_falls t z w, q (omega (arith, occurrences_fall T mc ac two x x₁ state one z (old_other z e p))))

  -- and isn't chosen
  pub quiet_other : (z : ℕ) → Quiet T x z → z ≢ one.s
  quiet_other z q e =
      let low = one.choice.low in
      let k : degree⁺ (tree m one.s) ≤ 2 = (rw e at q) s_occurs in
      omega (arith, s_degree)
