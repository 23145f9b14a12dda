-- Below the roots: a node stands in the walks exactly where some path leads to it, and tests over the walks are tests over the ids. Assumes nothing.
use Prim.Native.Nat.{ℕ, zero, suc, ◌+◌, ◌<◌}
use mathlib.Core.Path.{◌≡◌, refl, sym, ap, ◌∙◌}
use mathlib.Core.Logic.{◌⊎◌, inl, inr, ⊎_elim}
use mathlib.Core.Bool.{Bool, true, false, ◌&&◌}
use mathlib.Core.List.{List, [], ◌∷◌, ◌++◌, append-nil}
use native.Mathlib.Omega.{arith}
use lib.Dec.{eqb, ltb}
use borrow.Author.Tests.{eqb-true, eq-eqb, lt-ltb, ltb-true}
use Rattle.layout.specs.declared.node.Expression.{Expression}
use Rattle.layout.specs.declared.node.Expression.TheVariants.{Base, Extension, Challenge, Operation, Input}
use Rattle.layout.specs.Lists.{up_to, In, any, count}
use Rattle.layout.specs.Words.{used, expression_at}
use Rattle.layout.specs.NotCircuit.{not_circuit, bad_id}
use Rattle.layout.specs.Tree.{unfolded, tree}
use Rattle.circuit.specs.Rank.{at}
use Rattle.layout.proofs.Tests.{either, or_right, any_one, any_start, any-more}
use Rattle.layout.proofs.Lists.{clash, or_left, and-true, and_both, same_test, any_true}
use Rattle.layout.proofs.Valid.{valid_operands}
use Rattle.walking.specs.Paths.{walk, walks, paths}
use Rattle.paths.specs.Counting.{PathCounts}
use Rattle.paths.proofs.Walks.{hit_same, paths_more, roots_first, from_step}
use Rattle.paths.proofs.Counts.{counts-test}

-- lists

pub in_left : (x : ℕ) (xs ys : List ℕ) → In x xs → In x (xs ++ ys)
in_left x [] ys h = absurd h
in_left x (y ∷ xs) ys (inl e) = inl e
in_left x (y ∷ xs) ys (inr h) = inr (in_left x xs ys h)

pub in_right : (x : ℕ) (xs ys : List ℕ) → In x ys → In x (xs ++ ys)
in_right x [] ys h = h
in_right x (y ∷ xs) ys h = inr (in_right x xs ys h)

pub in_either : (x : ℕ) (xs ys : List ℕ) → In x (xs ++ ys) → In x xs ⊎ In x ys
in_either x [] ys h = inr h
in_either x (y ∷ xs) ys (inl e) = inl (inl e)
in_either x (y ∷ xs) ys (inr h) = ⊎_elim (λ a. inl (inr a)) inr (in_either x xs ys h)

pub in_count : (x : ℕ) (xs : List ℕ) → In x xs → 0 < count x xs
unfolding count
in_count x [] h = absurd h
in_count x (y ∷ xs) (inl e) = rw (eq-eqb x y e) (omega arith)
in_count x (y ∷ xs) (inr h) = let k = in_count x xs h in omega arith

pub count_in : (x : ℕ) (xs : List ℕ) → 0 < count x xs → In x xs
unfolding count
count_in x [] h = absurd (omega arith)
count_in x (y ∷ xs) h = go (eqb x y) refl (count_in x xs)
  where
    go : (b : Bool) → eqb x y ≡ b → (0 < count x xs → In x xs) → (x ≡ y) ⊎ In x xs
    go true e rest = inl (eqb-true x y e)
    go false e rest = let k : 0 < 0 + count x xs = rw e at h in inr (rest (omega arith))

pub any_in : (f : ℕ → Bool) (xs : List ℕ) (x : ℕ) → In x xs → f x ≡ true → any f xs ≡ true
unfolding any
any_in f [] x h e = absurd h
any_in f (y ∷ xs) x (inl q) e = or_left (f y) (any f xs) (sym (ap f q) ∙ e)
any_in f (y ∷ xs) x (inr h) e = or_right (f y) (any f xs) (any_in f xs x h e)

-- one in the list that passes
pub record Some (f : ℕ → Bool) (xs : List ℕ) : Type 0 where
  pub id : ℕ
  pub stands : In id xs
  pub passes : f id ≡ true

pub any_some : (f : ℕ → Bool) (xs : List ℕ) → any f xs ≡ true → Some f xs
unfolding any
any_some f [] h = clash false h refl
any_some f (y ∷ xs) h =
    ⊎_elim
    (λ e. record { id = y; stands = inl refl; passes = e })
    (λ k. let s = any_some f xs k in record { id = s.id; stands = inr s.stands; passes = s.passes })
    (either (f y) (any f xs) h)

-- tests that agree below n
pub any_same : (f g : ℕ → Bool) (n : ℕ) → ((i : ℕ) → i < n → f i ≡ g i) → any f (up_to n) ≡ any g (up_to n)
any_same f g zero h = any_start f ∙ sym (any_start g)
any_same f g (suc n) h = any-more f n ∙ rw (any_same f g n (λ i l. h i (omega arith)), h n (omega arith)) (sym (any-more g n))

-- walks

-- the walk from one root
pub walks_one : (m : List ℕ) (r : ℕ) → walks m (r ∷ []) ≡ walk (tree m r)
unfolding walks
walks_one m r = append-nil (walk (tree m r))

-- a path leads to exactly the nodes in the walks
pub paths_in : (m roots : List ℕ) (i : ℕ) → 0 < paths m roots i → In i (walks m roots)
unfolding paths
paths_in m roots i h = count_in i (walks m roots) h

pub in_paths : (m roots : List ℕ) (i : ℕ) → In i (walks m roots) → 0 < paths m roots i
unfolding paths
in_paths m roots i h = in_count i (walks m roots) h

module _ (m : List ℕ) (valid : not_circuit m ≡ false) where
  unfolded_below : (levels i x : ℕ) → i < used m → In x (walk (unfolded m levels i)) → x < used m
  unfolding walk unfolded
  unfolded_below zero i x l (inl e) = rw e l
  unfolded_below zero i x l (inr h) = absurd h
  unfolded_below (suc levels) i x l h = go (expression_at m i) refl h (unfolded_below levels)
    where
      go : (e : Expression) → expression_at m i ≡ e → In x (walk (Rattle.layout.specs.Tree.tree_over i e (unfolded m levels))) → ((j y : ℕ) → j < used m → In y (walk (unfolded m levels j)) → y < used m) → x < used m
      go (Base w) e (inl q) rest = rw q l
      go (Base w) e (inr q) rest = absurd q
      go (Extension w) e (inl q) rest = rw q l
      go (Extension w) e (inr q) rest = absurd q
      go (Challenge w) e (inl q) rest = rw q l
      go (Challenge w) e (inr q) rest = absurd q
      go (Input w) e (inl q) rest = rw q l
      go (Input w) e (inr q) rest = absurd q
      go (Operation o a b) e k rest =
          let (la, lb) = valid_operands m valid i l o a b e in
          ⊎_elim (rest a x la) (λ s. ⊎_elim (λ q. rw q l) (rest b x lb) s) (in_either x (walk (unfolded m levels a)) (i ∷ walk (unfolded m levels b)) k)

  -- what stands in the walks are ids
  pub walks_below : (roots : List ℕ) → bad_id m roots ≡ false → (x : ℕ) → In x (walks m roots) → x < used m
  unfolding walks
  walks_below [] k x h = absurd h
  walks_below (r ∷ roots) k x h =
      let (l, more) = roots_first m r roots k in
      ⊎_elim (unfolded_below (used m) r x l) (walks_below roots more x) (in_either x (walk (tree m r)) (walks m roots) h)

  -- a test over the walks is one over the ids that some path leads to
  pub any_walks : (roots : List ℕ) → bad_id m roots ≡ false → (f : ℕ → Bool) → any f (walks m roots) ≡ any (λ i. ltb 0 (paths m roots i) && f i) (up_to (used m))
  any_walks roots k f =
      same_test (any f (walks m roots)) (any (λ i. ltb 0 (paths m roots i) && f i) (up_to (used m)))
      (λ h.
      let s = any_some f (walks m roots) h in
      any_one (λ i. ltb 0 (paths m roots i) && f i) (used m) s.id (walks_below roots k s.id s.stands)
      (and_both (ltb 0 (paths m roots s.id)) (f s.id) (lt-ltb 0 (paths m roots s.id) (in_paths m roots s.id s.stands)) s.passes))
      (λ h.
      let s = any_true (λ i. ltb 0 (paths m roots i) && f i) (used m) h in
      let (p, q) = and-true (ltb 0 (paths m roots s.id)) (f s.id) s.passes in
      any_in f (walks m roots) s.id (paths_in m roots s.id (ltb-true 0 (paths m roots s.id) p)) q)

  -- the same over path counts in memory
  pub any_counted : (roots counts : List ℕ) → bad_id m roots ≡ false → PathCounts m roots counts → (f : ℕ → Bool) → any f (walks m roots) ≡ any (λ i. ltb 0 (at counts i) && f i) (up_to (used m))
  any_counted roots counts k c f =
      any_walks roots k f
      ∙ any_same (λ i. ltb 0 (paths m roots i) && f i) (λ i. ltb 0 (at counts i) && f i) (used m) (λ i l. rw (counts-test m roots counts c i l 0 (omega arith)))

  -- each root is below the roots
  pub root_below : (roots : List ℕ) → bad_id m roots ≡ false → (r : ℕ) → In r roots → 0 < paths m roots r
  root_below [] k r h = absurd h
  root_below (s ∷ roots) k r h =
      let (l, more) = roots_first m s roots k in
      let p = paths_more m s roots r in
      ⊎_elim
      (λ e. let q = from_step m valid s l r in let o = hit_same r s 1 e in omega arith)
      (λ i. let q = root_below roots more r i in omega arith)
      h
