-- The lookup that the words say; in a sound circuit the tree by levels is the tree. Assumes nothing.
use Rattle.std.specs.Prelude.{None, Some}
use Prim.Native.Nat.{ℕ, zero, suc, ◌+◌, ◌*◌, ◌-◌, ◌/◌, min, ◌≤◌, ◌<◌}
use mathlib.Core.Path.{◌≡◌, refl, sym, ◌∙◌, ap}
use mathlib.Core.Logic.{◌≢◌, ⊎_elim}
use mathlib.Core.Bool.{true, false, ◌||◌, not}
use mathlib.Core.List.{List, [], ◌∷◌}
use native.Mathlib.Decide.{dec_lt, dec_le}
use native.Mathlib.Omega.{arith}
use lib.ListN.{length}
use lib.Dec.{eqb, ltb, leb}
use borrow.Author.Tests.{ltb-false, leb-false, not-false}
use Rattle.layout.specs.Lists.{up_to, any, In}
use Rattle.layout.specs.declared.node.Expression.{Expression}
use Rattle.layout.specs.declared.node.Expression.TheVariants.{Base, Extension, Challenge, Operation, Input}
use Rattle.layout.specs.Words.{row_kind, used, limit, word, expression_at}
use Rattle.layout.specs.Tree.{base_leaf, extension_leaf, challenge_leaf, input_leaf, Tree, leaf, branch, tree_over, unfolded, tree, plain}
use Rattle.layout.specs.NotCircuit.{bad_expression, bad_node, goes_on, cyclic, bad_header, not_circuit}
use Rattle.lowering.proofs.Shape.{Expr, leaf_e, op_e, expr_of, Shape, lf, op, shape, Look, Unf, Whole, depth, pick}
use Rattle.lowering.proofs.Steps.{Distinct}
use Rattle.lowering.proofs.ListLaws.{or-false, any_false, up_to_in, up_to_length}
use Rattle.lowering.proofs.Unfold.{one_tree}
use Rattle.lowering.proofs.Bound.{no_more, notin_of}

-- the lookup that the words say
unfoldable pub look : List ℕ → Look
look m i = pick (dec_lt i (used m)) (Some (expr_of (expression_at m i))) None

pub look_in : (m : List ℕ) (i : ℕ) → i < used m → look m i ≡ Some (expr_of (expression_at m i))
unfolding look
look_in m i h = go (dec_lt i (used m))
  where
    go : (d : Dec (i < used m)) → pick d (Some (expr_of (expression_at m i))) None ≡ Some (expr_of (expression_at m i))
    go (yes p) = refl
    go (no g) = absurd (g h)

pub look_lt : (m : List ℕ) (i : ℕ) (e : Expr) → look m i ≡ Some e → i < used m
unfolding look
look_lt m i e h = go (dec_lt i (used m)) h
  where
    go : (d : Dec (i < used m)) → pick d (Some (expr_of (expression_at m i))) None ≡ Some e → i < used m
    go (yes p) h = p
    go (no g) h = absurd (let z : ◌≡◌ {A = ℕ} 0 1 = cc in omega arith)

pub look_is : (m : List ℕ) (i : ℕ) (e : Expr) → look m i ≡ Some e → expr_of (expression_at m i) ≡ e
look_is m i e h =
    let k : look m i ≡ Some (expr_of (expression_at m i)) = look_in m i (look_lt m i e h) in
    cc

-- and so what the words themselves say
pub says : (m : List ℕ) (i : ℕ) (e : Expression) → look m i ≡ Some (expr_of e) → expression_at m i ≡ e
says m i e h = sym (back (expression_at m i)) ∙ ap said (look_is m i (expr_of e) h) ∙ back e
  where
    said : Expr → Expression
    said (leaf_e a) = plain a
    said (op_e o l r) = Operation o l r

    back : (e : Expression) → said (expr_of e) ≡ e
    back (Base w) = refl
    back (Extension x) = refl
    back (Challenge k) = refl
    back (Operation o l r) = refl
    back (Input q) = refl

-- a node that has a tree is used
pub has_used : (m : List ℕ) (t : Shape) (i : ℕ) → Unf (look m) t i → i < used m
has_used m (lf x) i p = look_lt m i (leaf_e x) p
has_used m (op o a b) i (l, r, p, v, w) = look_lt m i (op_e o l r) p

-- the words are there, and every id has a tree
pub record Sound (m : List ℕ) : Type 0 where
  pub room : 2 + 6 * used m ≤ length m
  pub whole : Whole (look m) (used m)

-- the tree, with the ids in it
abbrev pub Tru : Look → Tree → ℕ → Type 0
Tru c (leaf j a) i = (j ≡ i) × (c i ≡ Some (leaf_e a))
Tru c (branch j o a b) i = (j ≡ i) × (l : ℕ) × (r : ℕ) × (c i ≡ Some (op_e o l r)) × Tru c a l × Tru c b r

pub true_shape : (c : Look) (t : Tree) (i : ℕ) → Tru c t i → Unf c (shape t) i
true_shape c (leaf j a) i (p, q) = q
true_shape c (branch j o a b) i (p, l, r, q, v, w) = (l, r, q, true_shape c a l v, true_shape c b r w)

depth_pos : (t : Shape) → 1 ≤ depth t
depth_pos (lf x) = omega arith
depth_pos (op o a b) = omega arith

-- enough levels give the tree
unfolded_true : (m : List ℕ) (k : ℕ) (t : Shape) (i : ℕ) → depth t ≤ k → Unf (look m) t i → Tru (look m) (unfolded m k i) i
unfolding unfolded
unfolded_true m zero t i h w = absurd (omega (arith, depth_pos t))
unfolded_true m (suc k) (lf x) i h w = go (expression_at m i) refl
  where
    go : (e : Expression) → expression_at m i ≡ e → Tru (look m) (tree_over i e (unfolded m k)) i
    go (Base v) p = (refl, look_in m i (look_lt m i (leaf_e x) w) ∙ ap (λ (e : Expression). Some (expr_of e)) p)
    go (Extension v) p = (refl, look_in m i (look_lt m i (leaf_e x) w) ∙ ap (λ (e : Expression). Some (expr_of e)) p)
    go (Challenge v) p = (refl, look_in m i (look_lt m i (leaf_e x) w) ∙ ap (λ (e : Expression). Some (expr_of e)) p)
    go (Operation o l r) p =
        let q : expr_of (expression_at m i) ≡ leaf_e x = look_is m i (leaf_e x) w in
        absurd (let z : ◌≡◌ {A = ℕ} 0 1 = cc in omega arith)
    go (Input v) p = (refl, look_in m i (look_lt m i (leaf_e x) w) ∙ ap (λ (e : Expression). Some (expr_of e)) p)
unfolded_true m (suc k) (op o a b) i h (l, r, p, v, w) =
    go (unfolded_true m k a l (omega arith) v) (unfolded_true m k b r (omega arith) w) (expression_at m i) refl
  where
    go : Tru (look m) (unfolded m k l) l → Tru (look m) (unfolded m k r) r → (e : Expression) → expression_at m i ≡ e → Tru (look m) (tree_over i e (unfolded m k)) i
    go v' w' (Base x) q = let z : expr_of (expression_at m i) ≡ op_e o l r = look_is m i (op_e o l r) p in absurd (let z : ◌≡◌ {A = ℕ} 0 1 = cc in omega arith)
    go v' w' (Extension x) q = let z : expr_of (expression_at m i) ≡ op_e o l r = look_is m i (op_e o l r) p in absurd (let z : ◌≡◌ {A = ℕ} 0 1 = cc in omega arith)
    go v' w' (Challenge x) q = let z : expr_of (expression_at m i) ≡ op_e o l r = look_is m i (op_e o l r) p in absurd (let z : ◌≡◌ {A = ℕ} 0 1 = cc in omega arith)
    go v' w' (Operation o' l' r') q =
        let z : expr_of (expression_at m i) ≡ op_e o l r = look_is m i (op_e o l r) p in
        let eo : o ≡ o' = cc in
        let el : l ≡ l' = cc in
        let er : r ≡ r' = cc in
        (refl, l', r', rw (eo, el, er) at p, rw el at v', rw er at w')
    go v' w' (Input x) q = let z : expr_of (expression_at m i) ≡ op_e o l r = look_is m i (op_e o l r) p in absurd (let z : ◌≡◌ {A = ℕ} 0 1 = cc in omega arith)

module _ (c : Look) (n : ℕ) (short : (i : ℕ) (e : Expr) → c i ≡ Some e → i < n) where
  -- as many distinct ids as the tree is deep
  record Spine (t : Shape) : Type 0 where
    ids : List ℕ
    distinct : Distinct ids
    long : length ids ≡ depth t
    good : (z : ℕ) → In z ids → (z < n) × (u : Shape) × Unf c u z × (depth u ≤ depth t)

  longer : (t a : Shape) (i : ℕ) (e : Expr) → c i ≡ Some e → Unf c t i → depth t ≡ suc (depth a) → Spine a → Spine t
  longer t a i e p w d sp =
      record {
        ids = i ∷ sp.ids;
        distinct = (notin_of i sp.ids fresh, sp.distinct);
        long = ap suc sp.long ∙ sym d;
        good = λ z h. ⊎_elim (λ k. (rw k (short i e p), t, rw k w, omega arith)) (λ k. up z (sp.good z k)) h;
      }
    where
      fresh : (z : ℕ) → In z sp.ids → z ≢ i
      fresh z h k =
          let (g, u, v, b) = sp.good z h in
          let same : u ≡ t = one_tree c u t z v (rw k w) in
          omega (arith, ap depth same)

      up : (z : ℕ) → ((z < n) × (u : Shape) × Unf c u z × (depth u ≤ depth a)) → (z < n) × (u : Shape) × Unf c u z × (depth u ≤ depth t)
      up z (g, u, v, b) = (g, u, v, omega arith)

  spine : (t : Shape) (i : ℕ) → Unf c t i → Spine t
  spine (lf x) i p =
      record {
        ids = i ∷ [];
        distinct = (tt, tt);
        long = refl;
        good = λ z h. ⊎_elim (λ k. (rw k (short i (leaf_e x) p), lf x, rw k p, omega arith)) absurd h;
      }
  spine (op o a b) i (l, r, p, v, w) = go (dec_le (depth a) (depth b)) (spine a l v) (spine b r w)
    where
      go : Dec (depth a ≤ depth b) → Spine a → Spine b → Spine (op o a b)
      go (yes h) x y = longer (op o a b) b i (op_e o l r) p (l, r, p, v, w) (omega arith) y
      go (no h) x y = longer (op o a b) a i (op_e o l r) p (l, r, p, v, w) (omega arith) x

  -- no tree is deeper than there are nodes: n levels are enough
  pub depth_bound : (t : Shape) (i : ℕ) → Unf c t i → depth t ≤ n
  depth_bound t i w =
      let sp = spine t i w in
      let h : length sp.ids ≤ length (up_to n) = no_more sp.ids (up_to n) sp.distinct (λ z k. up_to_in n z (sp.good z k).0) in
      omega (arith, up_to_length n, sp.long)

-- in any words, a node that has a tree has it by levels
pub tree_of : (m : List ℕ) (t : Shape) (i : ℕ) → Unf (look m) t i → Tru (look m) (tree m i) i
tree_of m t i w = unfolded_true m (used m) t i (depth_bound (look m) (used m) (look_lt m) t i w) w

pub tree_true : (m : List ℕ) → Sound m → (i : ℕ) → i < used m → Tru (look m) (tree m i) i
tree_true m s i h = let (t, w) = s.whole i h in tree_of m t i w

pub tree_shape : (m : List ℕ) → Sound m → (i : ℕ) → i < used m → Unf (look m) (shape (tree m i)) i
tree_shape m s i h = true_shape (look m) (tree m i) i (tree_true m s i h)

-- the tree is any shape that the node unfolds to
pub shape_is : (m : List ℕ) (t : Shape) (i : ℕ) → Unf (look m) t i → shape (tree m i) ≡ t
shape_is m t i w = one_tree (look m) (shape (tree m i)) t i (true_shape (look m) (tree m i) i (tree_of m t i w)) w

-- a circuit is sound
module _ (m : List ℕ) (good : (i : ℕ) → i < used m → bad_node m i ≡ false) where
  rises : (k i : ℕ) → i < used m → goes_on m k i ≡ false → (t : Shape) × Unf (look m) t i
  unfolding goes_on bad_node bad_expression
  rises zero i h g = absurd (let z : ◌≡◌ {A = ℕ} 0 1 = cc in omega arith)
  rises (suc k) i h g = go (λ j a b. rises k j a b) (expression_at m i) refl
    where
      at_i : look m i ≡ Some (expr_of (expression_at m i))
      at_i = look_in m i h

      go : ((j : ℕ) → j < used m → goes_on m k j ≡ false → (t : Shape) × Unf (look m) t j) → (e : Expression) → expression_at m i ≡ e → (t : Shape) × Unf (look m) t i
      go ih (Base x) q = (lf (base_leaf x), at_i ∙ ap (λ (e : Expression). Some (expr_of e)) q)
      go ih (Extension x) q = (lf (extension_leaf x), at_i ∙ ap (λ (e : Expression). Some (expr_of e)) q)
      go ih (Challenge x) q = (lf (challenge_leaf x), at_i ∙ ap (λ (e : Expression). Some (expr_of e)) q)
      go ih (Operation o l r) q =
          let g' : (goes_on m k l || goes_on m k r) ≡ false = rw q at g in
          let (gl, gr) = or-false (goes_on m k l) (goes_on m k r) g' in
          let (b₀, b₁) = or-false (ltb 8 (word m i 0)) (ltb 1 (word m i 4) || bad_expression m (expression_at m i)) (good i h) in
          let (b₂, b₃) = or-false (ltb 1 (word m i 4)) (bad_expression m (expression_at m i)) b₁ in
          let b₄ : (leb (used m) l || leb (used m) r) ≡ false = rw q at b₃ in
          let (hl, hr) = or-false (leb (used m) l) (leb (used m) r) b₄ in
          let (a, v) = ih l (leb-false (used m) l hl) gl in
          let (b, w) = ih r (leb-false (used m) r hr) gr in
          (op o a b, (l, r, at_i ∙ ap (λ (e : Expression). Some (expr_of e)) q, v, w))
      go ih (Input x) q = (lf (input_leaf x), at_i ∙ ap (λ (e : Expression). Some (expr_of e)) q)

-- the parts of a circuit
pub record Parts (m : List ℕ) : Type 0 where
  pub header : 2 ≤ length m
  pub row : (eqb (row_kind m) 1 || eqb (row_kind m) 2) ≡ true
  pub inside : used m ≤ limit m
  pub nodes : (i : ℕ) → i < used m → bad_node m i ≡ false
  pub ends : (i : ℕ) → i < used m → goes_on m (used m) i ≡ false

pub parts : (m : List ℕ) → not_circuit m ≡ false → Parts m
unfolding not_circuit bad_header cyclic
parts m h =
    let (a, b) = or-false (bad_header m) (any (bad_node m) (up_to (used m)) || cyclic m) h in
    let (n, g) = or-false (any (bad_node m) (up_to (used m))) (cyclic m) b in
    let (a₁, a₂) = or-false (ltb (length m) 2) (not (eqb (row_kind m) 1 || eqb (row_kind m) 2) || ltb (limit m) (used m)) a in
    let (a₃, a₄) = or-false (not (eqb (row_kind m) 1 || eqb (row_kind m) 2)) (ltb (limit m) (used m)) a₂ in
    record {
      header = ltb-false (length m) 2 a₁;
      row = not-false (eqb (row_kind m) 1 || eqb (row_kind m) 2) a₃;
      inside = ltb-false (limit m) (used m) a₄;
      nodes = λ i k. any_false (bad_node m) (up_to (used m)) n i (up_to_in (used m) i k);
      ends = λ i k. any_false (goes_on m (used m)) (up_to (used m)) g i (up_to_in (used m) i k);
    }

pub valid_sound : (m : List ℕ) → not_circuit m ≡ false → Sound m
unfolding limit
valid_sound m h =
    let q = parts m h in
    let lim : used m ≤ min ((length m - 2) / 6) 4096 = q.inside in
    let two : 2 ≤ length m = q.header in
    record { room = omega arith; whole = λ i k. rises m q.nodes (used m) i k (q.ends i k) }
