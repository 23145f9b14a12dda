-- Finding and making: what the building steps give. Assumes nothing.
use Rattle.std.specs.Prelude.{Option, None, Some}
use Prim.Native.Nat.{ℕ, suc, ◌+◌, ◌*◌, ◌≤◌, ◌<◌}
use mathlib.Core.Path.{◌≡◌, refl, sym, ◌∙◌, ap, ap₂}
use mathlib.Core.Logic.{◌≢◌, ◌⊎◌, inl, inr, ⊎_elim}
use mathlib.Core.Bool.{true, false, ◌&&◌}
use mathlib.Core.List.{List, [], ◌∷◌}
use native.Mathlib.Decide.{ℕ_discrete}
use native.Mathlib.Omega.{arith}
use lib.ListN.{length, get_or}
use lib.Dec.{eqb}
use borrow.Author.Tests.{eqb-true, eq-eqb}
use Rattle.layout.specs.Lists.{up_to, same_words}
use Rattle.layout.specs.declared.node.Position.{Position}
use Rattle.layout.specs.declared.node.Op.{Op}
use Rattle.layout.specs.declared.node.Op.TheVariants.{Add, Multiply}
use Rattle.layout.specs.declared.node.Expression.{Expression}
use Rattle.layout.specs.declared.node.Expression.TheVariants.{Base, Extension, Challenge, Operation, Input}
use Rattle.layout.specs.declared.node.Node.{Node}
use Rattle.layout.specs.Words.{used, decode, node_at, registered, op_kind, encode, made}
use Rattle.layout.specs.Tree.{Leaf, base_leaf, extension_leaf, challenge_leaf, input_leaf, Tree, leaf, branch, tree, tree_of, plain, same}
use Rattle.building.specs.Building.{Built, built, find, or_else, find_or_make, either_order}
use Rattle.lowering.proofs.Shape.{Expr, leaf_e, op_e, expr_of, Shape, lf, op, shape, Look, Unf}
use Rattle.lowering.proofs.ListLaws.{and-true, and_both, up_to_in, in_up_to, first_some, first-none}
use Rattle.lowering.proofs.Unfold.{one_tree}
use Rattle.lowering.proofs.Words.{look, look_lt, Sound, tree_shape, shape_is}
use Rattle.lowering.proofs.Proper.{good_leaf, Proper, made_proper}
use Rattle.lowering.proofs.Made.{decode-encode, made_row, made_used, made_room, made_length, made_old, made_mark, look_made_old, look_made_new, look_made_back}

words_same : (a b : List ℕ) → same_words a b ≡ true → a ≡ b
unfolding same_words
words_same [] [] h = refl
words_same [] (y ∷ b) h = absurd (let z : ◌≡◌ {A = ℕ} 0 1 = cc in omega arith)
words_same (x ∷ a) [] h = absurd (let z : ◌≡◌ {A = ℕ} 0 1 = cc in omega arith)
words_same (x ∷ a) (y ∷ b) h =
    let (p, q) = and-true (eqb x y) (same_words a b) h in
    ap₂ ◌∷◌ (eqb-true x y p) (words_same a b q)

encode_one : (e f : Expression) → encode e ≡ encode f → e ≡ f
encode_one e f h = sym (decode-encode e) ∙ ap (λ (l : List ℕ). decode (get_or l 0 0) (get_or l 1 0) (get_or l 2 0) (get_or l 3 0)) h ∙ decode-encode f

plain_expr : (a : Leaf) → expr_of (plain a) ≡ leaf_e a
plain_expr (base_leaf w) = refl
plain_expr (extension_leaf x) = refl
plain_expr (challenge_leaf k) = refl
plain_expr (input_leaf q) = refl

leaf_same : (a b : Leaf) → same_words (encode (plain a)) (encode (plain b)) ≡ true → a ≡ b
leaf_same a b h =
    let e : plain a ≡ plain b = encode_one (plain a) (plain b) (words_same (encode (plain a)) (encode (plain b)) h) in
    let f : leaf_e a ≡ leaf_e b = sym (plain_expr a) ∙ ap expr_of e ∙ plain_expr b in
    cc

op_same : (o q : Op) → eqb (op_kind o) (op_kind q) ≡ true → o ≡ q
op_same Add Add h = refl
op_same Add Multiply h = absurd (let z : ◌≡◌ {A = ℕ} 0 1 = cc in omega arith)
op_same Multiply Add h = absurd (let z : ◌≡◌ {A = ℕ} 0 1 = cc in omega arith)
op_same Multiply Multiply h = refl

-- equal by structure: equal but for the ids
pub same_shape : (s t : Tree) → same s t ≡ true → shape s ≡ shape t
unfolding same
same_shape (leaf i a) (leaf j b) h = ap lf (leaf_same a b h)
same_shape (leaf i a) (branch j o l r) h = absurd (let z : ◌≡◌ {A = ℕ} 0 1 = cc in omega arith)
same_shape (branch i o l r) (leaf j b) h = absurd (let z : ◌≡◌ {A = ℕ} 0 1 = cc in omega arith)
same_shape (branch i o l r) (branch j q s t) h =
    let (p, k) = and-true (eqb (op_kind o) (op_kind q)) (same l s && same r t) h in
    let (a, b) = and-true (same l s) (same r t) k in
    let eo : o ≡ q = op_same o q p in
    let el : shape l ≡ shape s = same_shape l s a in
    let er : shape r ≡ shape t = same_shape r t b in
    cc

-- what is found has the tree looked for
pub found : (m : List ℕ) → Sound m → (e : Expression) (i : ℕ) → find m e ≡ Some i → Unf (look m) (shape (tree_of m e)) i
unfolding find
found m s e i h =
    let (k, p) = first_some (λ i. registered m i && same (tree m i) (tree_of m e)) (up_to (used m)) i h in
    let (g, q) = and-true (registered m i) (same (tree m i) (tree_of m e)) p in
    rw (same_shape (tree m i) (tree_of m e) q) at (tree_shape m s i (in_up_to (used m) i k))

pub found_mark : (m : List ℕ) (e : Expression) (i : ℕ) → find m e ≡ Some i → registered m i ≡ true
unfolding find
found_mark m e i h =
    let (k, p) = first_some (λ i. registered m i && same (tree m i) (tree_of m e)) (up_to (used m)) i h in
    (and-true (registered m i) (same (tree m i) (tree_of m e)) p).0

words_self : (a : List ℕ) → same_words a a ≡ true
unfolding same_words
words_self [] = refl
words_self (x ∷ a) = and_both (eqb x x) (same_words a a) (eq-eqb x x refl) (words_self a)

op_self : (o : Op) → eqb (op_kind o) (op_kind o) ≡ true
op_self o = eq-eqb (op_kind o) (op_kind o) refl

-- equal but for the ids: equal by structure
pub shape_same : (s t : Tree) → shape s ≡ shape t → same s t ≡ true
unfolding same
shape_same (leaf i a) (leaf j b) h =
    let e : a ≡ b = cc in
    rw e (words_self (encode (plain b)))
shape_same (leaf i a) (branch j o l r) h = absurd (let z : ◌≡◌ {A = ℕ} 0 1 = cc in omega arith)
shape_same (branch i o l r) (leaf j b) h = absurd (let z : ◌≡◌ {A = ℕ} 0 1 = cc in omega arith)
shape_same (branch i o l r) (branch j q s t) h =
    let eo : o ≡ q = cc in
    let el : shape l ≡ shape s = cc in
    let er : shape r ≡ shape t = cc in
    rw eo (and_both (eqb (op_kind q) (op_kind q)) (same l s && same r t) (op_self q) (and_both (same l s) (same r t) (shape_same l s el) (shape_same r t er)))

-- what is there and registered is found
pub finds : (m : List ℕ) (e : Expression) (j : ℕ) → j < used m → registered m j ≡ true → shape (tree m j) ≡ shape (tree_of m e) → find m e ≢ None
unfolding find
finds m e j h g p n =
    let a : (registered m j && same (tree m j) (tree_of m e)) ≡ false = first-none (λ i. registered m i && same (tree m i) (tree_of m e)) (up_to (used m)) n j (up_to_in (used m) j h) in
    let b : (registered m j && same (tree m j) (tree_of m e)) ≡ true = and_both (registered m j) (same (tree m j) (tree_of m e)) g (shape_same (tree m j) (tree_of m e) p) in
    let z : ◌≡◌ {A = ℕ} 0 1 = cc in
    omega arith

-- a circuit with more nodes: old ones are as they were, no new input
pub record Grew (m m' : List ℕ) : Type 0 where
  pub sound : Sound m'
  pub ext : (i : ℕ) (e : Expr) → look m i ≡ Some e → look m' i ≡ Some e
  pub marks : (i : ℕ) → i < used m → registered m' i ≡ registered m i
  pub counts : (i : ℕ) → i < used m → (node_at m' i).references ≡ (node_at m i).references
  pub more : used m ≤ used m'
  pub inputs : (i : ℕ) (q : Position) → look m' i ≡ Some (leaf_e (input_leaf q)) → look m i ≡ Some (leaf_e (input_leaf q))
  -- what fits into the lent words takes no more
  pub in_place : 2 + 6 * used m' ≤ length m → length m' ≡ length m
  pub proper : Proper m → Proper m'
  pub row : get_or m' 0 0 ≡ get_or m 0 0

pub grew_self : (m : List ℕ) → Sound m → Grew m m
grew_self m s = record { sound = s; ext = λ i e h. h; marks = λ i h. refl; counts = λ i h. refl; more = omega arith; inputs = λ i q h. h; in_place = λ h. refl; proper = λ h. h; row = refl }

pub grew_more : (a b c : List ℕ) → Grew a b → Grew b c → Grew a c
grew_more a b c g h =
    record {
      sound = h.sound;
      ext = λ i e p. h.ext i e (g.ext i e p);
      marks = λ i p. h.marks i (omega (arith, g.more)) ∙ g.marks i p;
      counts = λ i p. h.counts i (omega (arith, g.more)) ∙ g.counts i p;
      more = omega (arith, g.more, h.more);
      inputs = λ i q p. g.inputs i q (h.inputs i q p);
      in_place = λ p.
          let e : length b ≡ length a = g.in_place (omega (arith, h.more)) in
          h.in_place (omega arith) ∙ e;
      proper = λ p. h.proper (g.proper p);
      row = h.row ∙ g.row;
    }

pub unf_ext : (c c' : Look) → ((i : ℕ) (e : Expr) → c i ≡ Some e → c' i ≡ Some e) → (t : Shape) (i : ℕ) → Unf c t i → Unf c' t i
unf_ext c c' h (lf x) i p = h i (leaf_e x) p
unf_ext c c' h (op o a b) i (l, r, p, v, w) = (l, r, h i (op_e o l r) p, unf_ext c c' h a l v, unf_ext c c' h b r w)

-- an old node has the tree that it had
pub unf_back : (m m' : List ℕ) → Sound m → Grew m m' → (t : Shape) (i : ℕ) → i < used m → Unf (look m') t i → Unf (look m) t i
unf_back m m' s g t i h w =
    let (a, v) = s.whole i h in
    let e : a ≡ t = one_tree (look m') a t i (unf_ext (look m) (look m') g.ext a i v) w in
    rw e at v

-- what a new node may say: an operation's operands have trees
abbrev pub Ready : List ℕ → Expression → Type 0
Ready m (Base w) = Unit {0}
Ready m (Extension x) = Unit {0}
Ready m (Challenge k) = Unit {0}
Ready m (Operation o l r) = ((t : Shape) × Unf (look m) t l) × ((t : Shape) × Unf (look m) t r)
Ready m (Input q) = Unit {0}

made_ext : (m : List ℕ) → Sound m → (e : Expression) (i : ℕ) (f : Expr) → look m i ≡ Some f → look (made m e) i ≡ Some f
made_ext m s e i f h = look_made_old m e s.room i (look_lt m i f h) ∙ h

made_tree : (m : List ℕ) → Sound m → (e : Expression) → Ready m e → (t : Shape) × Unf (look (made m e)) t (used m)
made_tree m s (Base w) r = (lf (base_leaf w), look_made_new m (Base w) s.room)
made_tree m s (Extension x) r = (lf (extension_leaf x), look_made_new m (Extension x) s.room)
made_tree m s (Challenge k) r = (lf (challenge_leaf k), look_made_new m (Challenge k) s.room)
made_tree m s (Operation o l r) ((a, v), (b, w)) =
    let x = made_ext m s (Operation o l r) in
    (op o a b, (l, r, look_made_new m (Operation o l r) s.room, unf_ext (look m) (look (made m (Operation o l r))) x a l v, unf_ext (look m) (look (made m (Operation o l r))) x b r w))
made_tree m s (Input q) r = (lf (input_leaf q), look_made_new m (Input q) s.room)

pub made_sound : (m : List ℕ) → Sound m → (e : Expression) → Ready m e → Sound (made m e)
made_sound m s e r = record { room = made_room m e s.room; whole = λ i h. go i (omega (arith, made_used m e s.room)) (ℕ_discrete i (used m)) }
  where
    go : (i : ℕ) → i < suc (used m) → Dec (i ≡ used m) → (t : Shape) × Unf (look (made m e)) t i
    go i h (yes p) = rw p (made_tree m s e r)
    go i h (no q) = let (t, w) = s.whole i (omega arith) in (t, unf_ext (look m) (look (made m e)) (made_ext m s e) t i w)

made_grew : (m : List ℕ) → Sound m → (e : Expression) → Ready m e → ((q : Position) → expr_of e ≢ leaf_e (input_leaf q)) → ((x : Leaf) → expr_of e ≡ leaf_e x → good_leaf (get_or m 0 0) x) → Grew m (made m e)
made_grew m s e r n good =
    record {
      sound = made_sound m s e r;
      ext = made_ext m s e;
      marks = λ i h. ap (λ (x : Node). x.registered) (made_old m e s.room i h);
      counts = λ i h. ap (λ (x : Node). x.references) (made_old m e s.room i h);
      more = omega (arith, made_used m e s.room);
      inputs = λ i q h. ⊎_elim (λ k. k) (λ k. absurd (n q (sym k.1))) (look_made_back m e s.room i (leaf_e (input_leaf q)) h);
      in_place = λ h. made_length m e s.room (omega (arith, made_used m e s.room));
      proper = made_proper m s.room e good;
      row = made_row m e s.room;
    }

-- found or made: a circuit grown to have a node with the tree of e
pub record Got (m : List ℕ) (t : Shape) (b : Built) : Type 0 where
  pub grew : Grew m b.circuit
  pub tree : Unf (look b.circuit) t b.id
  pub mark : registered b.circuit b.id ≡ true
  pub few : used b.circuit ≤ suc (used m)
  -- nothing else is made
  pub new : (i : ℕ) → used m ≤ i → i < used b.circuit → i ≡ b.id

pub found_or_made : (m : List ℕ) → Sound m → (e : Expression) → Ready m e → ((q : Position) → expr_of e ≢ leaf_e (input_leaf q)) → ((x : Leaf) → expr_of e ≡ leaf_e x → good_leaf (get_or m 0 0) x) → Got m (shape (tree_of m e)) (find_or_make m e)
unfolding find_or_make
found_or_made m s e r n good = go (find m e) refl
  where
    at_new : (e : Expression) → Ready m e → Unf (look (made m e)) (shape (tree_of m e)) (used m)
    at_new (Base w) r = look_made_new m (Base w) s.room
    at_new (Extension x) r = look_made_new m (Extension x) s.room
    at_new (Challenge k) r = look_made_new m (Challenge k) s.room
    at_new (Operation o l r) ((a, v), (b, w)) =
        let x = made_ext m s (Operation o l r) in (
          l,
          r,
          look_made_new m (Operation o l r) s.room,
          unf_ext (look m) (look (made m (Operation o l r))) x (shape (tree m l)) l (rw (shape_is m a l v) v),
          unf_ext (look m) (look (made m (Operation o l r))) x (shape (tree m r)) r (rw (shape_is m b r w) w),
        )
    at_new (Input q) r = look_made_new m (Input q) s.room

    go : (x : Option ℕ) → find m e ≡ x → Got m (shape (tree_of m e)) (or_else x m (built (made m e) (used m)))
    go (Some i) h = record { grew = grew_self m s; tree = found m s e i h; mark = found_mark m e i h; few = omega arith; new = λ j a b. absurd (omega arith) }
    go None h = record { grew = made_grew m s e r n good; tree = at_new e r; mark = made_mark m e s.room; few = omega (arith, made_used m e s.room); new = λ j a b. omega (arith, made_used m e s.room) }

-- either order
pub either_order_lem : (m : List ℕ) → Sound m → (o : Op) (l r : ℕ) (a b : Shape) → Unf (look m) a l → Unf (look m) b r → Got m (op o a b) (either_order m o l r) ⊎ Got m (op o b a) (either_order m o l r)
unfolding either_order
either_order_lem m s o l r a b v w = go (find m (Operation o r l)) refl
  where
    go : (x : Option ℕ) → find m (Operation o r l) ≡ x → Got m (op o a b) (or_else x m (find_or_make m (Operation o l r))) ⊎ Got m (op o b a) (or_else x m (find_or_make m (Operation o l r)))
    go (Some i) h = inr (rw (shape_is m a l v, shape_is m b r w) at (let g : Got m (op o (shape (tree m r)) (shape (tree m l))) (built m i) = record { grew = grew_self m s; tree = found m s (Operation o r l) i h; mark = found_mark m (Operation o r l) i h; few = omega arith; new = λ j a b. absurd (omega arith) } in g))
    go None h =
        let g : Got m (op o (shape (tree m l)) (shape (tree m r))) (find_or_make m (Operation o l r)) = found_or_made m s (Operation o l r) ((a, v), (b, w)) (λ q e. absurd (let z : ◌≡◌ {A = ℕ} 0 1 = cc in omega arith)) (λ x e. absurd (let z : ◌≡◌ {A = ℕ} 0 1 = cc in omega arith)) in
        inl (rw (shape_is m a l v, shape_is m b r w) at g)
