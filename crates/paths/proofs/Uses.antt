-- The paths to a node from the paths to those that use it, once for each use. Assumes nothing.
use Rattle.std.specs.Prelude.{None, Option, Some}
use Prim.Native.Nat.{ℕ, zero, suc, ◌+◌, ◌<◌, ◌≤◌}
use mathlib.Core.Path.{◌≡◌, refl, sym, ap, ◌∙◌}
use mathlib.Core.Logic.{◌≢◌}
use mathlib.Core.Bool.{Bool, true, false}
use mathlib.Core.List.{List, [], ◌∷◌}
use native.Mathlib.Omega.{arith}
use lib.Dec.{eqb}
use Rattle.layout.specs.Lists.{count}
use Rattle.layout.specs.Words.{used, expression_at}
use Rattle.layout.specs.NotCircuit.{not_circuit, bad_id}
use Rattle.circuit.specs.Rank.{at, Sorted}
use Rattle.walking.specs.Paths.{paths}
use Rattle.paths.proofs.Sums.{sum, sum_same, sum_none, sum-add, sum_one}
use Rattle.paths.proofs.Walks.{hit, hit_same, hit_other, both, step_two, from, step, paths_none, paths_more, roots_first, from_step, step_below}

-- what x gets of c from a node that uses it: c for each use
abbrev pub given : Option (ℕ × ℕ) → ℕ → ℕ → ℕ
given s x c = both s (λ j. hit x j c)

hit_split : (x j c d : ℕ) → hit x j (c + d) ≡ hit x j c + hit x j d
hit_split x j c d = go (eqb x j) refl
  where
    go : (b : Bool) → eqb x j ≡ b → hit x j (c + d) ≡ hit x j c + hit x j d
    go true e = rw e
    go false e = rw e

hit_none : (x j : ℕ) → hit x j 0 ≡ 0
hit_none x j = go (eqb x j) refl
  where
    go : (b : Bool) → eqb x j ≡ b → hit x j 0 ≡ 0
    go true e = rw e
    go false e = rw e

given_none : (s : Option (ℕ × ℕ)) (x : ℕ) → given s x 0 ≡ 0
given_none None x = refl
given_none (Some (l, r)) x = rw (hit_none x l, hit_none x r)

given_add : (s : Option (ℕ × ℕ)) (x c d : ℕ) → given s x (c + d) ≡ given s x c + given s x d
given_add None x c d = refl
given_add (Some (l, r)) x c d = rw (hit_split x l c d, hit_split x r c d) (omega arith)

-- what x gets from the first n places of an order, where each node p has w p
abbrev pub into : List ℕ → List ℕ → ℕ → (ℕ → ℕ) → ℕ → ℕ
into m order x w n = sum (λ q. given (step m (at order q)) x (w (at order q))) n

module _ (m order : List ℕ) (x : ℕ) where
  into_add : (u v : ℕ → ℕ) (n : ℕ) → into m order x (λ p. u p + v p) n ≡ into m order x u n + into m order x v n
  into_add u v n =
      sum_same (λ q. given (step m (at order q)) x (u (at order q) + v (at order q))) (λ q. given (step m (at order q)) x (u (at order q)) + given (step m (at order q)) x (v (at order q))) n (λ q _. given_add (step m (at order q)) x (u (at order q)) (v (at order q)))
      ∙ sum-add (λ q. given (step m (at order q)) x (u (at order q))) (λ q. given (step m (at order q)) x (v (at order q))) n

  into_same : (u v : ℕ → ℕ) (n : ℕ) → ((p : ℕ) → u p ≡ v p) → into m order x u n ≡ into m order x v n
  into_same u v n h = sum_same (λ q. given (step m (at order q)) x (u (at order q))) (λ q. given (step m (at order q)) x (v (at order q))) n (λ q _. ap (given (step m (at order q)) x) (h (at order q)))

  into_none : (n : ℕ) → into m order x (λ p. 0) n ≡ 0
  into_none n = sum_none (λ q. given (step m (at order q)) x 0) n (λ q _. given_none (step m (at order q)) x)

module _ (m : List ℕ) (valid : not_circuit m ≡ false) (order rank : List ℕ) (sorted : Sorted m order rank) where
  -- the operands of a node come before it
  pub ranks_fall : (p : ℕ) → p < used m → (l r : ℕ) → step m p ≡ Some (l, r) → (at rank l < at rank p) × (at rank r < at rank p)
  ranks_fall p h l r e = let (o, q) = step_two (expression_at m p) l r e in (sorted.left_first p o l r h q, sorted.right_first p o l r h q)

  -- a node at place q gives nothing to one at or after its own place
  pub unused : (q x w : ℕ) → q < used m → x < used m → q ≤ at rank x → given (step m (at order q)) x w ≡ 0
  unused q x w l h le = go (step m (at order q)) refl
    where
      go : (s : Option (ℕ × ℕ)) → step m (at order q) ≡ s → given (step m (at order q)) x w ≡ 0
      go None e = rw e
      go (Some (a, b)) e =
          let (fa, fb) = ranks_fall (at order q) (sorted.order_below q l) a b e in
          let r = sorted.rank_order q l in
          let na : x ≢ a = λ y. let z = ap (at rank) y in omega arith in
          let nb : x ≢ b = λ y. let z = ap (at rank) y in omega arith in
          rw (e, hit_other x a w na, hit_other x b w nb)

  -- where only node h has one
  own : (h x : ℕ) → h < used m → into m order x (λ p. hit p h 1) (used m) ≡ given (step m h) x 1
  own h x l =
      sum_one (λ q. given (step m (at order q)) x (hit (at order q) h 1)) (used m) (at rank h) (sorted.rank_below h l)
      (λ q k n. ap (given (step m (at order q)) x) (hit_other (at order q) h 1 (λ e. n (sym (sorted.rank_order q k) ∙ ap (at rank) e))) ∙ given_none (step m (at order q)) x)
      ∙ rw (sorted.order_rank h l, hit_same h h 1 refl)

  uses_step : (f h x : ℕ) → h < used m → at rank h < f → from m h x ≡ hit x h 1 + into m order x (from m h) (used m)
  uses_step zero h x l k = absurd (omega arith)
  uses_step (suc f) h x l k = go (step m h) refl (uses_step f)
    where
      go : (s : Option (ℕ × ℕ)) → step m h ≡ s → ((g y : ℕ) → g < used m → at rank g < f → from m g y ≡ hit y g 1 + into m order y (from m g) (used m)) → from m h x ≡ hit x h 1 + into m order x (from m h) (used m)
      go None e rest =
          let base : (y : ℕ) → from m h y ≡ hit y h 1 + 0 = λ y. rw e at (from_step m valid h l y) in
          let t = into_same m order x (from m h) (λ p. hit p h 1) (used m) (λ p. base p ∙ omega arith) ∙ own h x l in
          let z : given (step m h) x 1 ≡ 0 = rw e in
          rw (t, z) (base x)
      go (Some (a, b)) e rest =
          let base : (y : ℕ) → from m h y ≡ hit y h 1 + (from m a y + from m b y) = λ y. rw e at (from_step m valid h l y) in
          let (la, lb) = step_below m valid h l a b e in
          let (ra, rb) = ranks_fall h l a b e in
          let ia = rest a x la (omega arith) in
          let ib = rest b x lb (omega arith) in
          let t : into m order x (from m h) (used m) ≡ given (step m h) x 1 + (into m order x (from m a) (used m) + into m order x (from m b) (used m)) =
          into_same m order x (from m h) (λ p. hit p h 1 + (from m a p + from m b p)) (used m) base
          ∙ into_add m order x (λ p. hit p h 1) (λ p. from m a p + from m b p) (used m)
          ∙ rw (own h x l, into_add m order x (from m a) (from m b) (used m)) in
          let z : given (step m h) x 1 ≡ hit x a 1 + hit x b 1 = rw e in
          base x ∙ rw (t, z, ia, ib) (omega arith)

  pub from_uses : (h x : ℕ) → h < used m → from m h x ≡ hit x h 1 + into m order x (from m h) (used m)
  from_uses h x l = uses_step (used m) h x l (sorted.rank_below h l)

  -- the paths from some roots: one for each time that it is a root, and those to the nodes that use it
  pub paths_uses : (roots : List ℕ) (x : ℕ) → bad_id m roots ≡ false → paths m roots x ≡ count x roots + into m order x (paths m roots) (used m)
  unfolding count
  paths_uses [] x h =
      let z = into_same m order x (paths m []) (λ p. 0) (used m) (paths_none m) ∙ into_none m order x (used m) in
      rw (paths_none m x, z)
  paths_uses (r ∷ roots) x h =
      let (l, k) = roots_first m r roots h in
      let a = from_uses r x l in
      let b = paths_uses roots x k in
      let t = into_same m order x (paths m (r ∷ roots)) (λ p. from m r p + paths m roots p) (used m) (paths_more m r roots) ∙ into_add m order x (from m r) (paths m roots) (used m) in
      rw (paths_more m r roots x, t) (omega arith)
