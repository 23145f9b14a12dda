-- What the definitions choose is what the theory may choose. Assumes nothing.
use Rattle.std.specs.Prelude.{if◌then◌else◌, Some}
use Prim.Native.Nat.{ℕ, suc, ◌≤◌, ◌<◌, max}
use mathlib.Core.Path.{◌≡◌, refl, sym, ◌∙◌, ap, ap₂, subst}
use mathlib.Core.Logic.{◌⊎◌, inl, inr, ⊎_elim}
use mathlib.Core.Bool.{Bool, true, false, ◌&&◌, ◌||◌, not}
use mathlib.Core.List.{List, [], ◌∷◌, ◌++◌, map}
use native.Mathlib.Omega.{arith}
use lib.Dec.{eqb, ltb}
use borrow.Author.Tests.{ltb-true, ltb-false, eqb-true, not-true, not-false, lt-ltb, le-ltb}
use Rattle.layout.specs.Lists.{up_to, keep, each, In}
use Rattle.layout.specs.declared.node.Op.{Op}
use Rattle.layout.specs.declared.node.Op.TheVariants.{Add, Multiply}
use Rattle.layout.specs.Words.{used, registered}
use Rattle.layout.specs.Tree.{Tree, leaf, branch, tree}
use Rattle.walking.specs.Paths.{walk, walks, paths}
use Rattle.reading.specs.Readings.{product_degree⁺, degree⁺, above}
use Rattle.lowering.specs.Lowering.{below_above, too_high, Candidate, candidates, better, best}
use Rattle.lowering.specs.Refusals.{loose}
use Rattle.lowering.proofs.Shape.{op_e, Shape, shape, Look, Unf, deg}
use Rattle.lowering.proofs.Steps.{Below, root, left, right, Regs, Rooted, Heavy, TooHigh, Choice}
use Rattle.lowering.proofs.ListLaws.{and-true, and_both, in_left, in_right, in_cases, any_false, any_true, keep_in, in_keep, up_to_in, count_in, in_count}
use Rattle.lowering.proofs.Count.{unf_some, below_tree}
use Rattle.lowering.proofs.Remains.{candidate_from}
use Rattle.lowering.proofs.Words.{look, look_lt, Tru, tree_of, shape_is}

-- the degree of a tree is that of its shape
pub degree_shape : (t : Tree) → degree⁺ t ≡ deg (shape t)
unfolding degree⁺
degree_shape (leaf i a) = refl
degree_shape (branch i Add l r) = ap₂ max (degree_shape l) (degree_shape r)
degree_shape (branch i Multiply l r) = ap₂ product_degree⁺ (degree_shape l) (degree_shape r)

pub degree_is : (m : List ℕ) (t : Shape) (i : ℕ) → Unf (look m) t i → degree⁺ (tree m i) ≡ deg t
degree_is m t i w = degree_shape (tree m i) ∙ ap deg (shape_is m t i w)

pub above_true : (d : ℕ) (m : List ℕ) (i : ℕ) → above d m i ≡ true → suc (suc d) ≤ degree⁺ (tree m i)
unfolding above
above_true d m i h = ltb-true (suc d) (degree⁺ (tree m i)) h

pub above_false : (d : ℕ) (m : List ℕ) (i : ℕ) → above d m i ≡ false → degree⁺ (tree m i) ≤ suc d
unfolding above
above_false d m i h = ltb-false (suc d) (degree⁺ (tree m i)) h

pub above_yes : (d : ℕ) (m : List ℕ) (i : ℕ) → suc (suc d) ≤ degree⁺ (tree m i) → above d m i ≡ true
unfolding above
above_yes d m i h = lt-ltb (suc d) (degree⁺ (tree m i)) h

pub above_no : (d : ℕ) (m : List ℕ) (i : ℕ) → degree⁺ (tree m i) ≤ suc d → above d m i ≡ false
unfolding above
above_no d m i h = le-ltb (suc d) (degree⁺ (tree m i)) h

-- the walk meets what is below, and nothing else
pub walk_below : (c : Look) (rs : List ℕ) (t : Tree) (r : ℕ) → Tru c t r → Below c rs r → (i : ℕ) → In i (walk t) → Below c rs i
unfolding walk
walk_below c rs (leaf j a) r (e, p) b i (inl h) = let k : i ≡ r = h ∙ e in rw k b
walk_below c rs (leaf j a) r (e, p) b i (inr h) = absurd h
walk_below c rs (branch j o x y) r (e, l, k, p, v, w) b i h =
    go (λ q. walk_below c rs x l v (left b p) i q) (λ q. walk_below c rs y k w (right b p) i q) (in_cases i (walk x) (j ∷ walk y) h)
  where
    go : (In i (walk x) → Below c rs i) → (In i (walk y) → Below c rs i) → In i (walk x) ⊎ In i (j ∷ walk y) → Below c rs i
    go f g (inl q) = f q
    go f g (inr (inl q)) = let k : i ≡ r = q ∙ e in rw k b
    go f g (inr (inr q)) = g q

pub walk_top : (c : Look) (t : Tree) (r : ℕ) → Tru c t r → In r (walk t)
unfolding walk
walk_top c (leaf j a) r (e, p) = inl (sym e)
walk_top c (branch j o x y) r (e, l, k, p, v, w) = in_right r (walk x) (j ∷ walk y) (inl (sym e))

walk_down : (c : Look) (t : Tree) (r : ℕ) → Tru c t r → (j : ℕ) (o : Op) (l k : ℕ) → In j (walk t) → c j ≡ Some (op_e o l k) → In l (walk t) × In k (walk t)
unfolding walk
walk_down c (leaf i a) r (e, p) j o l k (inl h) q =
    let z : j ≡ r = h ∙ e in
    absurd (let z : ◌≡◌ {A = ℕ} 0 1 = cc in omega arith)
walk_down c (leaf i a) r (e, p) j o l k (inr h) q = absurd h
walk_down c (branch i o' x y) r (e, l', k', p, v, w) j o l k h q =
    go (λ z. walk_down c x l' v j o l k z q) (λ z. walk_down c y k' w j o l k z q) (in_cases j (walk x) (i ∷ walk y) h)
  where
    go : (In j (walk x) → In l (walk x) × In k (walk x)) → (In j (walk y) → In l (walk y) × In k (walk y)) → In j (walk x) ⊎ In j (i ∷ walk y) → In l (walk x ++ (i ∷ walk y)) × In k (walk x ++ (i ∷ walk y))
    go f g (inl z) = let (a, b) = f z in (in_left l (walk x) (i ∷ walk y) a, in_left k (walk x) (i ∷ walk y) b)
    go f g (inr (inl z)) =
        let s : j ≡ r = z ∙ e in
        let el : l' ≡ l = cc in
        let ek : k' ≡ k = cc in
        let a : In l' (walk x) = walk_top c x l' v in
        let b : In k' (walk y) = walk_top c y k' w in
        (in_left l (walk x) (i ∷ walk y) (rw el at a), in_right k (walk x) (i ∷ walk y) (inr (rw ek at b)))
    go f g (inr (inr z)) = let (a, b) = g z in (in_right l (walk x) (i ∷ walk y) (inr a), in_right k (walk x) (i ∷ walk y) (inr b))

pub below_walk : (c : Look) (t : Tree) (r : ℕ) → Tru c t r → (i : ℕ) → Below c (r ∷ []) i → In i (walk t)
below_walk c t r h i (root (inl e)) = rw e (walk_top c t r h)
below_walk c t r h i (root (inr e)) = absurd e
below_walk c t r h i (left {o = o} {i = j} {l = l} {r = k} b p) = (walk_down c t r h j o l k (below_walk c t r h j b) p).0
below_walk c t r h i (right {o = o} {i = j} {l = l} {r = k} b p) = (walk_down c t r h j o l k (below_walk c t r h j b) p).1

pub below_one : (c : Look) (rs : List ℕ) (i : ℕ) → Below c rs i → (r : ℕ) × In r rs × Below c (r ∷ []) i
below_one c rs i (root h) = (i, h, root (inl refl))
below_one c rs i (left {i = j} b p) = let (r, h, k) = below_one c rs j b in (r, h, left k p)
below_one c rs i (right {i = j} b p) = let (r, h, k) = below_one c rs j b in (r, h, right k p)

pub below_more : (c : Look) (rs : List ℕ) (r : ℕ) → Below c rs r → (i : ℕ) → Below c (r ∷ []) i → Below c rs i
below_more c rs r b i (root (inl e)) = rw e b
below_more c rs r b i (root (inr e)) = absurd e
below_more c rs r b i (left {i = j} k p) = left (below_more c rs r b j k) p
below_more c rs r b i (right {i = j} k p) = right (below_more c rs r b j k) p

walks_in : (m : List ℕ) (rs : List ℕ) (r i : ℕ) → In r rs → In i (walk (tree m r)) → In i (walks m rs)
unfolding walks
walks_in m [] r i h k = absurd h
walks_in m (x ∷ rs) r i (inl e) k = in_left i (walk (tree m x)) (walks m rs) (rw e at k)
walks_in m (x ∷ rs) r i (inr h) k = in_right i (walk (tree m x)) (walks m rs) (walks_in m rs r i h k)

pub in_walks : (m : List ℕ) (rs : List ℕ) (i : ℕ) → In i (walks m rs) → (r : ℕ) × In r rs × In i (walk (tree m r))
unfolding walks
in_walks m [] i h = absurd h
in_walks m (x ∷ rs) i h = go (in_cases i (walk (tree m x)) (walks m rs) h) (λ k. in_walks m rs i k)
  where
    go : In i (walk (tree m x)) ⊎ In i (walks m rs) → (In i (walks m rs) → (r : ℕ) × In r rs × In i (walk (tree m r))) → (r : ℕ) × In r (x ∷ rs) × In i (walk (tree m r))
    go (inl k) f = (x, inl refl, k)
    go (inr k) f = let (r, a, b) = f k in (r, inr a, b)

module _ (m : List ℕ) (rs : List ℕ) (rooted : Rooted (look m) rs) where
  true_root : (r : ℕ) → In r rs → Tru (look m) (tree m r) r
  true_root r h = let (t, w) = rooted r h in tree_of m t r w

  pub below_walks : (i : ℕ) → Below (look m) rs i → In i (walks m rs)
  below_walks i b =
      let (r, h, k) = below_one (look m) rs i b in
      walks_in m rs r i h (below_walk (look m) (tree m r) r (true_root r h) i k)

  pub walks_below : (i : ℕ) → In i (walks m rs) → Below (look m) rs i
  walks_below i h =
      let (r, a, b) = in_walks m rs i h in
      walk_below (look m) rs (tree m r) r (true_root r a) (root a) i b

  pub below_paths : (i : ℕ) → Below (look m) rs i → 0 < paths m rs i
  unfolding paths
  below_paths i b = count_in i (walks m rs) (below_walks i b)

  pub paths_below : (i : ℕ) → 0 < paths m rs i → Below (look m) rs i
  unfolding paths
  paths_below i h = walks_below i (in_count i (walks m rs) h)

  -- nothing loose below the roots
  pub all_registered : loose m rs ≡ false → Regs (look m) (λ i. registered m i) rs
  unfolding loose
  all_registered h i b = not-false (registered m i) (any_false (λ j. not (registered m j)) (walks m rs) h i (below_walks i b))

  -- the ids of degree above d below the roots
  pub in_high : (d i : ℕ) → Below (look m) rs i → suc (suc d) ≤ degree⁺ (tree m i) → In i (below_above d m rs)
  unfolding below_above
  in_high d i b h =
      let (t, w) = below_tree rooted i b in
      let (e, p) = unf_some (look m) t i w in
      keep_in (λ j. ltb 0 (paths m rs j) && above d m j) (up_to (used m)) i (up_to_in (used m) i (look_lt m i e p))
      (and_both (ltb 0 (paths m rs i)) (above d m i) (lt-ltb 0 (paths m rs i) (below_paths i b)) (above_yes d m i h))

  pub high_in_lem : (d i : ℕ) → In i (below_above d m rs) → Below (look m) rs i
  unfolding below_above
  high_in_lem d i h =
      let (a, b) = in_keep (λ j. ltb 0 (paths m rs j) && above d m j) (up_to (used m)) i h in
      let (p, q) = and-true (ltb 0 (paths m rs i)) (above d m i) b in
      paths_below i (ltb-true 0 (paths m rs i) p)

  -- M counts every one of them
  pub heavy_in : (i : ℕ) → Heavy (look m) rs i → In i (below_above 1 m rs)
  heavy_in i (b, (t, w, h)) = in_high 1 i b (omega (arith, degree_is m t i w))

  pub too_high_lem : (T : ℕ) → too_high T m rs ≡ true → TooHigh T (look m) rs
  unfolding too_high
  too_high_lem T h =
      let (r, a, b) = any_true (above T m) rs h in
      let (t, w) = rooted r a in
      (r, a, (t, w, omega (arith, above_true T m r b, degree_is m t r w)))

pub within : (T : ℕ) (m rs : List ℕ) → too_high T m rs ≡ false → (r : ℕ) → In r rs → degree⁺ (tree m r) ≤ suc T
unfolding too_high
within T m rs h r k = above_false T m r (any_false (above T m) rs h r k)

-- the best of a list is one of it, and none has more occurrences
better_cases : (a b : Candidate) → ((better a b ≡ a) × (b.occurrences ≤ a.occurrences)) ⊎ ((better a b ≡ b) × (a.occurrences ≤ b.occurrences))
better_cases a b = go (ltb a.occurrences b.occurrences) (eqb a.occurrences b.occurrences) (ltb a.degree b.degree) refl refl
  where
    go : (p q r : Bool) → ltb a.occurrences b.occurrences ≡ p → eqb a.occurrences b.occurrences ≡ q
        → (((if p || q && r then b else a) ≡ a) × (b.occurrences ≤ a.occurrences)) ⊎ (((if p || q && r then b else a) ≡ b) × (a.occurrences ≤ b.occurrences))
    go true q r h k = inr (refl, omega (arith, ltb-true a.occurrences b.occurrences h))
    go false true true h k = inr (refl, omega (arith, eqb-true a.occurrences b.occurrences k))
    go false true false h k = inl (refl, ltb-false a.occurrences b.occurrences h)
    go false false r h k = inl (refl, ltb-false a.occurrences b.occurrences h)

best_from : (a : Candidate) (cs : List Candidate) → In (each better a cs) (a ∷ cs) × ((x : Candidate) → In x (a ∷ cs) → x.occurrences ≤ (each better a cs).occurrences)
unfolding each
best_from a [] = (inl refl, λ x h. ⊎_elim (λ (e : x ≡ a). rw e (omega arith)) (λ z. absurd z) h)
best_from a (b ∷ cs) = go (better_cases a b) (best_from (better a b) cs)
  where
    go : ((better a b ≡ a) × (b.occurrences ≤ a.occurrences)) ⊎ ((better a b ≡ b) × (a.occurrences ≤ b.occurrences))
        → In (each better (better a b) cs) (better a b ∷ cs) × ((x : Candidate) → In x (better a b ∷ cs) → x.occurrences ≤ (each better (better a b) cs).occurrences)
        → In (each better (better a b) cs) (a ∷ b ∷ cs) × ((x : Candidate) → In x (a ∷ b ∷ cs) → x.occurrences ≤ (each better (better a b) cs).occurrences)
    go (inl (e, h)) (i, f) = (
      ⊎_elim (λ z. inl (z ∙ e)) (λ z. inr (inr z)) i,
      λ x k.
          let top : a.occurrences ≤ (each better (better a b) cs).occurrences = f a (inl (sym e)) in
          ⊎_elim (λ (z : x ≡ a). rw z top) (λ (z : (x ≡ b) ⊎ In x cs). ⊎_elim (λ (y : x ≡ b). rw y (omega arith)) (λ y. f x (inr y)) z) k,
    )
    go (inr (e, h)) (i, f) = (
      ⊎_elim (λ z. inr (inl (z ∙ e))) (λ z. inr (inr z)) i,
      λ x k.
          let top : b.occurrences ≤ (each better (better a b) cs).occurrences = f b (inl (sym e)) in
          ⊎_elim (λ (w : x ≡ a). rw w (omega arith)) (λ z. ⊎_elim (λ (y : x ≡ b). rw y top) (λ y. f x (inr y)) z) k,
    )

best_in_lem : (l : List Candidate) (x : Candidate) → In x l → (b : Candidate) × In b l × (best l ≡ b.id) × (x.occurrences ≤ b.occurrences)
unfolding best
best_in_lem [] x h = absurd h
best_in_lem (a ∷ cs) x h = let (i, f) = best_from a cs in (each better a cs, i, refl, f x h)

module _ {A B : Type 0} (f : A → B) where
  map_into : (x : A) (xs : List A) → In x xs → In (f x) (map f xs)
  map_into x [] h = absurd h
  map_into x (y ∷ xs) (inl e) = inl (ap f e)
  map_into x (y ∷ xs) (inr h) = inr (map_into x xs h)

  map_from : (y : B) (xs : List A) → In y (map f xs) → (x : A) × In x xs × (y ≡ f x)
  map_from y [] h = absurd h
  map_from y (x ∷ xs) (inl e) = (x, inl refl, e)
  map_from y (x ∷ xs) (inr h) = let (z, a, b) = map_from y xs h in (z, inr a, b)

module _ (T : ℕ) (two : 2 ≤ T) (m : List ℕ) (rs : List ℕ) (rooted : Rooted (look m) rs) (high : too_high T m rs ≡ true) where
  one : ℕ → Candidate
  one i = record { id = i; degree = degree⁺ (tree m i); occurrences = paths m (below_above T m rs) i }

  fits : ℕ → Bool
  fits i = above 1 m i && not (above T m i)

  candidates_are : candidates T m rs ≡ map one (keep fits (up_to (used m)))
  unfolding candidates one fits
  candidates_are = refl

  high_rooted : Rooted (look m) (below_above T m rs)
  high_rooted i h = below_tree rooted i (high_in_lem m rs rooted T i h)

  some_candidate : (i : ℕ) × In (one i) (candidates T m rs) × (0 < (one i).occurrences)
  unfolding one fits
  some_candidate =
      let (r, a, (t, w, d)) = too_high_lem m rs rooted T high in
      let (i, u, ch) = candidate_from T two (look m) (r ∷ []) t r w (root (inl refl)) d in
      let (e, p) = unf_some (look m) u i ch.tree in
      let du : degree⁺ (tree m i) ≡ deg u = degree_is m u i ch.tree in
      let low : 3 ≤ deg u = ch.low in
      let top : deg u ≤ suc T = ch.high in
      let ok : fits i ≡ true = and_both (above 1 m i) (not (above T m i)) (above_yes 1 m i (omega arith)) (ap not (above_no T m i (omega arith))) in
      let k : In i (keep fits (up_to (used m))) = keep_in fits (up_to (used m)) i (up_to_in (used m) i (look_lt m i e p)) ok in
      let hr : In r (below_above T m rs) = in_high m rs rooted T r (root a) (omega (arith, degree_is m t r w)) in
      (i, rw candidates_are (map_into one i (keep fits (up_to (used m))) k), below_paths m (below_above T m rs) high_rooted i (below_more (look m) (below_above T m rs) r (root hr) i ch.below))

  -- the best candidate is a used node of fit degree that occurs below a high node
  record Best (j : ℕ) : Type 0 where
    fit : In j (keep fits (up_to (used m)))
    is : best (candidates T m rs) ≡ j
    occurs : 0 < paths m (below_above T m rs) j

  best-is : (j : ℕ) × Best j
  unfolding one
  best-is =
      let (i, a, b) = some_candidate in
      let (c, d, e, f) = best_in_lem (candidates T m rs) (one i) a in
      let (j, k, q) = map_from one c (keep fits (up_to (used m))) (subst (λ (l : List Candidate). In c l) candidates_are d) in
      (j, record { fit = k; is = e ∙ ap (λ (x : Candidate). x.id) q; occurs = omega (arith, ap (λ (x : Candidate). x.occurrences) q) })

  -- the node chosen has at least one occurrence
  pub chosen_occurs : 0 < paths m (below_above T m rs) (best (candidates T m rs))
  chosen_occurs = let (j, b) = best-is in rw b.is b.occurs

  -- and no node of fit degree has more
  pub chosen_most : (i : ℕ) → i < used m → 3 ≤ degree⁺ (tree m i) → degree⁺ (tree m i) ≤ suc T → paths m (below_above T m rs) i ≤ paths m (below_above T m rs) (best (candidates T m rs))
  unfolding one fits
  chosen_most i l low top =
      let ok : fits i ≡ true = and_both (above 1 m i) (not (above T m i)) (above_yes 1 m i (omega arith)) (ap not (above_no T m i (omega arith))) in
      let k : In i (keep fits (up_to (used m))) = keep_in fits (up_to (used m)) i (up_to_in (used m) i l) ok in
      let (c, d, e, f) = best_in_lem (candidates T m rs) (one i) (rw candidates_are (map_into one i (keep fits (up_to (used m))) k)) in
      let (j, g, q) = map_from one c (keep fits (up_to (used m))) (subst (λ (l : List Candidate). In c l) candidates_are d) in
      rw (e ∙ ap (λ (x : Candidate). x.id) q) (omega (arith, f, ap (λ (x : Candidate). x.occurrences) q))

  -- the best candidate may be chosen
  pub best_choice : (u : Shape) × Choice T (look m) rs (best (candidates T m rs)) u
  unfolding fits
  best_choice =
      let (j, b) = best-is in
      let (_, ok) = in_keep fits (up_to (used m)) j b.fit in
      let (p₁, p₂) = and-true (above 1 m j) (not (above T m j)) ok in
      let s : best (candidates T m rs) ≡ j = b.is in
      let occ : 0 < paths m (below_above T m rs) j = b.occurs in
      let bj : Below (look m) (below_above T m rs) j = paths_below m (below_above T m rs) high_rooted j occ in
      let below : Below (look m) rs j = go j bj in
      let (u, w) = below_tree rooted j below in
      let low : 3 ≤ degree⁺ (tree m j) = above_true 1 m j p₁ in
      let top : degree⁺ (tree m j) ≤ suc T = above_false T m j (not-true (above T m j) p₂) in
      (u, rw s (record { below = below; tree = w; low = omega (arith, degree_is m u j w); high = omega (arith, degree_is m u j w) }))
    where
      go : (j : ℕ) → Below (look m) (below_above T m rs) j → Below (look m) rs j
      go j b = let (h, a, k) = below_one (look m) (below_above T m rs) j b in below_more (look m) rs h (high_in_lem m rs rooted T h a) j k
