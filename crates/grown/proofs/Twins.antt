-- All that stands in a new constraint is quiet, also where it is over a loose twin of the chosen node: what of it stands below the roots stands below the
-- chosen node too, since no two registered nodes are alike. Assumes nothing.
use Rattle.std.specs.Prelude.{Some}
use Prim.Native.Nat.{ℕ, ◌≤◌, ◌<◌}
use mathlib.Core.Path.{◌≡◌, refl, sym, ◌∙◌, ap, ap₂, subst}
use mathlib.Core.Logic.{◌≢◌, ◌⊎◌, inl, inr}
use mathlib.Core.Bool.{true}
use mathlib.Core.List.{List, ◌∷◌}
use native.Mathlib.Omega.{arith}
use Rattle.arithmetic.specs.Base.{minus_one}
use Rattle.layout.specs.declared.node.Position.{Position}
use Rattle.layout.specs.declared.node.Op.{Op}
use Rattle.layout.specs.declared.node.Op.TheVariants.{Add, Multiply}
use Rattle.layout.specs.Lists.{In}
use Rattle.layout.specs.Words.{registered}
use Rattle.layout.specs.Tree.{Leaf, base_leaf, input_leaf, Tree, leaf, branch, tree}
use Rattle.walking.specs.Paths.{walk}
use Rattle.paths.proofs.Below.{paths_in}
use Rattle.reading.specs.Readings.{degree⁺}
use Rattle.lowering.specs.Lowering.{Lowering, below_above, too_high}
use Rattle.lowering.proofs.Shape.{leaf_e, op_e, Shape, lf, op, shape, Look, Unf, sub}
use Rattle.lowering.proofs.Steps.{Minus, Gap, sum, swapped, Move, Below, left, right}
use Rattle.lowering.proofs.Unfold.{one_tree, sub_leaf, leaf_low}
use Rattle.lowering.proofs.OneStep.{tree_after}
use Rattle.lowering.proofs.Count.{below_tree, below_after}
use Rattle.lowering.proofs.ListLaws.{in_cases, in_left, in_right}
use Rattle.lowering.proofs.Words.{look, Tru, tree_of, true_shape, shape_is}
use Rattle.lowering.proofs.Chooses.{degree_is, walk_below, in_walks, high_in_lem}
use Rattle.lowering.proofs.OneMore.{State, OneMore, state_after}
use Rattle.grown.proofs.Passing.{one_true}
use Rattle.grown.proofs.Occurs.{occurs}
use Rattle.grown.proofs.Quiet.{Quiet, below_s, below_quiet}

-- two nodes of one shape: each node of one tree has a node of the same shape in the other
pub record Mirror (c c' : Look) (t : Tree) (z : ℕ) : Type 0 where
  pub node : ℕ
  pub stands : In node (walk t)
  pub form : Shape
  pub is : Unf c form node
  pub was : Unf c' form z

pub mirror : (c c' : Look) (t t' : Tree) (i i' : ℕ) → Tru c t i → Tru c' t' i' → shape t ≡ shape t' → (z : ℕ) → In z (walk t') → Mirror c c' t z
unfolding walk
mirror c c' (leaf j a) (leaf k b) i i' (e, p) (f, q) h z (inl w) =
    let d : z ≡ i' = w ∙ f in
    let g : a ≡ b = cc in
    record { node = j; stands = inl refl; form = lf a; is = rw e p; was = rw (d, g) q }
mirror c c' (leaf j a) (leaf k b) i i' v v' h z (inr w) = absurd w
mirror c c' (leaf j a) (branch k o x y) i i' v v' h z w = absurd (let n : ◌≡◌ {A = ℕ} 0 1 = cc in omega arith)
mirror c c' (branch k o x y) (leaf j a) i i' v v' h z w = absurd (let n : ◌≡◌ {A = ℕ} 0 1 = cc in omega arith)
mirror c c' (branch j o a b) (branch k o' a' b') i i' (e, l, r, p, v, w) (e', l', r', p', v', w') h z d =
    let ea : shape a ≡ shape a' = cc in
    let eb : shape b ≡ shape b' = cc in
    go (λ g. mirror c c' a a' l l' v v' ea z g) (λ g. mirror c c' b b' r r' w w' eb z g) (in_cases z (walk a') (k ∷ walk b') d)
  where
    whole : Unf c (shape (branch j o a b)) j
    whole = rw e (l, r, p, true_shape c a l v, true_shape c b r w)

    whole' : Unf c' (shape (branch k o' a' b')) i'
    whole' = (l', r', p', true_shape c' a' l' v', true_shape c' b' r' w')

    go : (In z (walk a') → Mirror c c' a z) → (In z (walk b') → Mirror c c' b z) → In z (walk a') ⊎ In z (k ∷ walk b') → Mirror c c' (branch j o a b) z
    go f g (inl q) = let x = f q in record { node = x.node; stands = in_left x.node (walk a) (j ∷ walk b) x.stands; form = x.form; is = x.is; was = x.was }
    go f g (inr (inl q)) =
        let d : z ≡ i' = q ∙ e' in
        record { node = j; stands = in_right j (walk a) (j ∷ walk b) (inl refl); form = shape (branch j o a b); is = whole; was = subst (λ (t : Shape). Unf c' t z) (sym h) (rw d whole') }
    go f g (inr (inr q)) = let x = g q in record { node = x.node; stands = in_right x.node (walk a) (j ∷ walk b) (inr x.stands); form = x.form; is = x.is; was = x.was }

-- a shape of c has no input at a column that c doesn't read
sub_none : {c : Look} {y : Position} (u : Shape) → ((i : ℕ) → c i ≢ Some (leaf_e (input_leaf y))) → (t : Shape) (i : ℕ) → Unf c t i → sub y u t ≡ t
sub_none {c} {y} u fresh (lf a) i p = sub_leaf y u a (λ e. fresh i (rw e at p))
sub_none u fresh (op o a b) i (l, r, p, v, w) = ap₂ (op o) (sub_none u fresh a l v) (sub_none u fresh b r w)

-- what stands in an operation's tree, and in a leaf's
module _ (m : List ℕ) where
  part_leaf : (t : Tree) (i z : ℕ) (a : Leaf) → Tru (look m) t i → look m i ≡ Some (leaf_e a) → In z (walk t) → z ≡ i
  unfolding walk
  part_leaf (leaf j b) i z a (e, p) q (inl h) = h ∙ e
  part_leaf (leaf j b) i z a (e, p) q (inr h) = absurd h
  part_leaf (branch j o b d) i z a (e, l, r, p, v, w) q h = absurd (let n : ◌≡◌ {A = ℕ} 0 1 = cc in omega arith)

  part_op : (t : Tree) (i z l r : ℕ) (o : Op) → Tru (look m) t i → look m i ≡ Some (op_e o l r) → In z (walk t) → (z ≡ i) ⊎ (In z (walk (tree m l)) ⊎ In z (walk (tree m r)))
  unfolding walk
  part_op (leaf j b) i z l r o (e, p) q h = absurd (let n : ◌≡◌ {A = ℕ} 0 1 = cc in omega arith)
  part_op (branch j o' a b) i z l r o (e, l', r', p, v, w) q h =
      let el : l' ≡ l = cc in
      let er : r' ≡ r = cc in
      go (rw el at v) (rw er at w) (in_cases z (walk a) (j ∷ walk b) h)
    where
      same : (x : Tree) (k : ℕ) → Tru (look m) x k → x ≡ tree m k
      same x k v = one_true (look m) x (tree m k) k v (tree_of m (shape x) k (true_shape (look m) x k v))

      go : Tru (look m) a l → Tru (look m) b r → In z (walk a) ⊎ In z (j ∷ walk b) → (z ≡ i) ⊎ (In z (walk (tree m l)) ⊎ In z (walk (tree m r)))
      go v w (inl g) = inr (inl (rw (same a l v) at g))
      go v w (inr (inl g)) = inl (g ∙ e)
      go v w (inr (inr g)) = inr (inr (rw (same b r w) at g))

module _ (T mc ac : ℕ) (two : 2 ≤ T) (x x₁ : Lowering) (state : State mc ac x) (one : OneMore T mc ac x x₁) (high : too_high T x.circuit x.roots ≡ true)
    (only_one : (t : Shape) (i j : ℕ) → registered x.circuit i ≡ true → registered x.circuit j ≡ true → Unf (look x.circuit) t i → Unf (look x.circuit) t j → i ≡ j) where
  abbrev m : List ℕ
  m = x.circuit

  abbrev m₁ : List ℕ
  m₁ = x₁.circuit

  move : Move (look m) (look m₁) one.s one.n one.y one.u
  move = one.st.step.move

  after : State mc ac x₁
  after = state_after T mc ac x x₁ state one

  -- what occurs stands below the roots
  occurs_below : (z : ℕ) → 0 < occurs T x₁ z → Below (look m₁) x₁.roots z
  occurs_below z h =
      let (r, a, b) = in_walks m₁ (below_above T m₁ x₁.roots) z (paths_in m₁ (below_above T m₁ x₁.roots) z h) in
      let k = high_in_lem m₁ x₁.roots after.rooted T r a in
      let (t, w) = below_tree after.rooted r k in
      walk_below (look m₁) x₁.roots (tree m₁ r) r (tree_of m₁ t r w) k z b

  leaf_quiet : (i : ℕ) (a : Leaf) → look m₁ i ≡ Some (leaf_e a) → Quiet T x₁ i
  leaf_quiet i a p h = omega (arith, degree_is m₁ (lf a) i p, leaf_low a)

  -- no node of the chosen node's shape stands below the roots
  twin_gone : (e : ℕ) → Unf (look m₁) one.u e → Below (look m₁) x₁.roots e → ⊥
  twin_gone e w b =
      let (n, g, v) = one.twin e (after.regs e b) w in
      n (only_one one.u e one.s g (state.regs one.s one.choice.below) v one.choice.tree)

  -- what stands in the tree of such a node is quiet
  twin_quiet : (e : ℕ) → Unf (look m₁) one.u e → (z : ℕ) → In z (walk (tree m₁ e)) → Quiet T x₁ z
  twin_quiet e w z h some_left = go (below_after one.st x.roots state.regs state.rooted z (rw one.to at (occurs_below z some_left)))
    where
      pair : Mirror (look m) (look m₁) (tree m one.s) z
      pair =
          mirror (look m) (look m₁) (tree m one.s) (tree m₁ e) one.s e (tree_of m one.u one.s one.choice.tree) (tree_of m₁ one.u e w)
          (shape_is m one.u one.s one.choice.tree ∙ sym (shape_is m₁ one.u e w)) z h

      go : (z ≡ one.n) ⊎ (Below (look m) x.roots z × (z ≢ one.s)) → degree⁺ (tree m₁ z) ≤ 2
      go (inl k) = let p : look m₁ z ≡ Some (leaf_e (input_leaf one.y)) = rw k move.new in leaf_quiet z (input_leaf one.y) p some_left
      go (inr (b, k)) =
          let (t, v) = below_tree state.rooted z b in
          let (t', v', g) = tree_after move t z v in
          let same : t ≡ pair.form = sym g ∙ ap (sub one.y one.u) (one_tree (look m₁) t' pair.form z v' pair.was) ∙ sub_none one.u move.fresh pair.form pair.node pair.is in
          let is : z ≡ pair.node = only_one pair.form z pair.node (state.regs z b) (state.regs pair.node (below_s T mc ac two x x₁ state one high pair.node pair.stands)) (rw same at v) pair.is in
          below_quiet T mc ac two x x₁ state one high z (rw is pair.stands) some_left

  -- nor does the product of -1 and such a node
  minus_gone : (p : ℕ) → Minus (look m₁) one.u p → Below (look m₁) x₁.roots p → ⊥
  minus_gone p (inl (l, r, q, v, w)) b = twin_gone r w (right b q)
  minus_gone p (inr (l, r, q, v, w)) b = twin_gone l v (left b q)

  minus_true : (p : ℕ) → Minus (look m₁) one.u p → Tru (look m₁) (tree m₁ p) p
  minus_true p (inl h) = tree_of m₁ (op Multiply (lf (base_leaf minus_one)) one.u) p h
  minus_true p (inr h) = tree_of m₁ (op Multiply one.u (lf (base_leaf minus_one))) p h

  minus_quiet : (p : ℕ) → Minus (look m₁) one.u p → (z : ℕ) → In z (walk (tree m₁ p)) → Quiet T x₁ z
  minus_quiet p h z k = go h
    where
      top : z ≡ p → Quiet T x₁ z
      top e some_left = absurd (minus_gone p h (rw e at (occurs_below z some_left)))

      go : Minus (look m₁) one.u p → Quiet T x₁ z
      go (inl (l, r, q, v, w)) = parts (part_op m₁ (tree m₁ p) p z l r Multiply (minus_true p h) q k)
        where
          parts : (z ≡ p) ⊎ (In z (walk (tree m₁ l)) ⊎ In z (walk (tree m₁ r))) → Quiet T x₁ z
          parts (inl e) = top e
          parts (inr (inl d)) = let e : z ≡ l = part_leaf m₁ (tree m₁ l) l z (base_leaf minus_one) (tree_of m₁ (lf (base_leaf minus_one)) l v) v d in leaf_quiet z (base_leaf minus_one) (rw e v)
          parts (inr (inr d)) = twin_quiet r w z d
      go (inr (l, r, q, v, w)) = parts (part_op m₁ (tree m₁ p) p z l r Multiply (minus_true p h) q k)
        where
          parts : (z ≡ p) ⊎ (In z (walk (tree m₁ l)) ⊎ In z (walk (tree m₁ r))) → Quiet T x₁ z
          parts (inl e) = top e
          parts (inr (inl d)) = twin_quiet l v z d
          parts (inr (inr d)) = let e : z ≡ r = part_leaf m₁ (tree m₁ r) r z (base_leaf minus_one) (tree_of m₁ (lf (base_leaf minus_one)) r w) w d in leaf_quiet z (base_leaf minus_one) (rw e w)

  -- THE NEW CONSTRAINT is quiet, throughout
  pub new_quiet : (z : ℕ) → In z (walk (tree m₁ one.q)) → Quiet T x₁ z
  new_quiet z k = go one.st.step.gap
    where
      go : Gap (look m₁) one.y one.u one.q → Quiet T x₁ z
      go (sum n p hn hp hq) = parts (part_op m₁ (tree m₁ one.q) one.q z n p Add whole hq k)
        where
          whole : Tru (look m₁) (tree m₁ one.q) one.q
          whole = tree_of m₁ (op Add (lf (input_leaf one.y)) (shape (tree m₁ p))) one.q (n, p, hq, hn, true_shape (look m₁) (tree m₁ p) p (minus_true p hp))

          parts : (z ≡ one.q) ⊎ (In z (walk (tree m₁ n)) ⊎ In z (walk (tree m₁ p))) → Quiet T x₁ z
          parts (inl e) = λ some_left. absurd (minus_gone p hp (right (rw e at (occurs_below z some_left)) hq))
          parts (inr (inl d)) = let e : z ≡ n = part_leaf m₁ (tree m₁ n) n z (input_leaf one.y) (tree_of m₁ (lf (input_leaf one.y)) n hn) hn d in leaf_quiet z (input_leaf one.y) (rw e hn)
          parts (inr (inr d)) = minus_quiet p hp z d
      go (swapped n p hn hp hq) = parts (part_op m₁ (tree m₁ one.q) one.q z p n Add whole hq k)
        where
          whole : Tru (look m₁) (tree m₁ one.q) one.q
          whole = tree_of m₁ (op Add (shape (tree m₁ p)) (lf (input_leaf one.y))) one.q (p, n, hq, true_shape (look m₁) (tree m₁ p) p (minus_true p hp), hn)

          parts : (z ≡ one.q) ⊎ (In z (walk (tree m₁ p)) ⊎ In z (walk (tree m₁ n))) → Quiet T x₁ z
          parts (inl e) = λ some_left. absurd (minus_gone p hp (left (rw e at (occurs_below z some_left)) hq))
          parts (inr (inl d)) = minus_quiet p hp z d
          parts (inr (inr d)) = let e : z ≡ n = part_leaf m₁ (tree m₁ n) n z (input_leaf one.y) (tree_of m₁ (lf (input_leaf one.y)) n hn) hn d in leaf_quiet z (input_leaf one.y) (rw e hn)
