-- A constraint is (its new input) - (a node), and stays so: a later substitution never chooses the product of -1 and that node, since either the
-- product or the node is loose, and what is chosen stands below a root, where nothing is loose. Assumes nothing.
use Rattle.std.specs.Prelude.{Some}
use Prim.Native.Nat.{ℕ, ◌<◌}
use mathlib.Core.Path.{◌≡◌, refl, ap, ap₂, ◌∙◌}
use mathlib.Core.Logic.{◌≢◌, ◌⊎◌, inl, inr, ⊎_elim}
use mathlib.Core.Bool.{Bool, true, false}
use mathlib.Core.List.{List}
use native.Mathlib.Omega.{arith}
use Rattle.arithmetic.specs.Base.{minus_one}
use Rattle.layout.specs.declared.node.Position.{Position}
use Rattle.layout.specs.declared.node.Op.TheVariants.{Add, Multiply}
use Rattle.layout.specs.Words.{used, registered}
use Rattle.layout.specs.Tree.{Leaf, base_leaf, input_leaf}
use Rattle.layout.proofs.Lists.{clash}
use Rattle.lowering.specs.Lowering.{Lowering}
use Rattle.lowering.proofs.Shape.{leaf_e, op_e, Shape, Unf}
use Rattle.lowering.proofs.Steps.{Moved, Minus, Gap, sum, swapped, Below, left, right}
use Rattle.lowering.proofs.Words.{look, look_lt, has_used}
use Rattle.lowering.proofs.Constraints.{operation_at}
use Rattle.lowering.proofs.OneMore.{OneMore, State}

-- node p is the product of -1 and the node v, in either order
pub record Negative (m : List ℕ) (p : ℕ) : Type 0 where
  pub minus : ℕ
  pub node : ℕ
  pub is_minus : look m minus ≡ Some (leaf_e (base_leaf minus_one))
  pub there : node < used m
  pub is_product : (look m p ≡ Some (op_e Multiply minus node)) ⊎ (look m p ≡ Some (op_e Multiply node minus))
  pub hidden : (registered m p ≡ false) ⊎ (registered m node ≡ false)

-- node q is the input at y less a node
pub record Less (m : List ℕ) (y : Position) (q : ℕ) : Type 0 where
  pub input : ℕ
  pub product : ℕ
  pub is_input : look m input ≡ Some (leaf_e (input_leaf y))
  pub is_sum : (look m q ≡ Some (op_e Add input product)) ⊎ (look m q ≡ Some (op_e Add product input))
  pub negative : Negative m product

module _ (T mc ac : ℕ) (x x₁ : Lowering) (state : State mc ac x) (one : OneMore T mc ac x x₁) where
  -- a leaf stays, and isn't chosen
  leaf_kept : (i : ℕ) (a : Leaf) → look x.circuit i ≡ Some (leaf_e a) → look x₁.circuit i ≡ Some (leaf_e a)
  leaf_kept i a h = let (e, p, k) = one.st.step.move.old i (leaf_e a) h in p ∙ ap Some k

  leaf_other : (i : ℕ) (a : Leaf) → look x.circuit i ≡ Some (leaf_e a) → i ≢ one.s
  leaf_other i a h e =
      let (o, l, r, p) = operation_at (look x.circuit) one.u one.s one.choice.low one.choice.tree in
      let h' : look x.circuit one.s ≡ Some (leaf_e a) = rw e at h in
      let z : ◌≡◌ {A = ℕ} 0 1 = cc in
      omega arith

  -- nor is what is loose
  loose_other : (i : ℕ) → registered x.circuit i ≡ false → i ≢ one.s
  loose_other i h e = clash (registered x.circuit i) (ap (λ (j : ℕ). registered x.circuit j) e ∙ state.regs one.s one.choice.below) h

  -- nor a product that is hidden
  product_other : (p : ℕ) → Negative x.circuit p → p ≢ one.s
  product_other p n e =
      let below : Below (look x.circuit) x.roots p = rw e one.choice.below in
      ⊎_elim (λ h. clash (registered x.circuit p) (state.regs p below) h)
      (λ h. clash (registered x.circuit n.node) (state.regs n.node (⊎_elim (λ q. right below q) (λ q. left below q) n.is_product)) h)
      n.hidden

  -- an operand that isn't chosen stays
  stays : {l l' : ℕ} → l ≢ one.s → Moved one.s one.n l l' → l' ≡ l
  stays h (inl e) = e
  stays h (inr (e, k)) = absurd (h e)

  node_there : (v v' : ℕ) → v < used x.circuit → Moved one.s one.n v v' → v' < used x₁.circuit
  node_there v v' h (inl e) = omega (arith, one.grows)
  node_there v v' h (inr (e, k)) = rw k (look_lt x₁.circuit one.n (leaf_e (input_leaf one.y)) one.st.step.move.new)

  still_hidden : (p v v' : ℕ) → p < used x.circuit → v < used x.circuit → Moved one.s one.n v v' → (registered x.circuit p ≡ false) ⊎ (registered x.circuit v ≡ false) → (registered x₁.circuit p ≡ false) ⊎ (registered x₁.circuit v' ≡ false)
  still_hidden p v v' a b w (inl h) = inl (one.loose p a h)
  still_hidden p v v' a b w (inr h) = inr (rw (stays (loose_other v h) w) (one.loose v b h))

  negative_kept : (p : ℕ) → Negative x.circuit p → Negative x₁.circuit p
  negative_kept p n = go n.is_product
    where
      go : (look x.circuit p ≡ Some (op_e Multiply n.minus n.node)) ⊎ (look x.circuit p ≡ Some (op_e Multiply n.node n.minus)) → Negative x₁.circuit p
      go (inl h) =
          let (e, q, (l, r, k, a, b)) = one.st.step.move.old p (op_e Multiply n.minus n.node) h in
          let z : l ≡ n.minus = stays (leaf_other n.minus (base_leaf minus_one) n.is_minus) a in
          record {
            minus = n.minus;
            node = r;
            is_minus = leaf_kept n.minus (base_leaf minus_one) n.is_minus;
            there = node_there n.node r n.there b;
            is_product = inl (q ∙ ap Some k ∙ ap (λ (j : ℕ). Some (op_e Multiply j r)) z);
            hidden = still_hidden p n.node r (look_lt x.circuit p (op_e Multiply n.minus n.node) h) n.there b n.hidden;
          }
      go (inr h) =
          let (e, q, (l, r, k, a, b)) = one.st.step.move.old p (op_e Multiply n.node n.minus) h in
          let z : r ≡ n.minus = stays (leaf_other n.minus (base_leaf minus_one) n.is_minus) b in
          record {
            minus = n.minus;
            node = l;
            is_minus = leaf_kept n.minus (base_leaf minus_one) n.is_minus;
            there = node_there n.node l n.there a;
            is_product = inr (q ∙ ap Some k ∙ ap (λ (j : ℕ). Some (op_e Multiply l j)) z);
            hidden = still_hidden p n.node l (look_lt x.circuit p (op_e Multiply n.node n.minus) h) n.there a n.hidden;
          }

  -- a sum of an input and a hidden product stays
  sum_kept : (q a b : ℕ) → look x.circuit q ≡ Some (op_e Add a b) → a ≢ one.s → b ≢ one.s → look x₁.circuit q ≡ Some (op_e Add a b)
  sum_kept q a b h f g =
      let (e, p, (l, r, k, v, w)) = one.st.step.move.old q (op_e Add a b) h in
      p ∙ ap Some k ∙ ap₂ (λ (i j : ℕ). Some (op_e Add i j)) (stays f v) (stays g w)

  pub less_kept : (y : Position) (q : ℕ) → Less x.circuit y q → Less x₁.circuit y q
  less_kept y q d =
      let f = leaf_other d.input (input_leaf y) d.is_input in
      let g = product_other d.product d.negative in
      record {
        input = d.input;
        product = d.product;
        is_input = leaf_kept d.input (input_leaf y) d.is_input;
        is_sum = ⊎_elim (λ h. inl (sum_kept q d.input d.product h f g)) (λ h. inr (sum_kept q d.product d.input h g f)) d.is_sum;
        negative = negative_kept d.product d.negative;
      }

  -- the new constraint is one, where no two registered nodes are equal: then no registered node has the chosen one's shape any more
  module _ (only_one : (t : Shape) (i j : ℕ) → registered x.circuit i ≡ true → registered x.circuit j ≡ true → Unf (look x.circuit) t i → Unf (look x.circuit) t j → i ≡ j) where
    shape_loose : (i : ℕ) → Unf (look x₁.circuit) one.u i → registered x₁.circuit i ≡ false
    shape_loose i w = go (registered x₁.circuit i) refl
      where
        go : (b : Bool) → registered x₁.circuit i ≡ b → b ≡ false
        go false e = refl
        go true e = let (n, g, v) = one.twin i e w in absurd (n (only_one one.u i one.s g (state.regs one.s one.choice.below) v one.choice.tree))

    negative_new : (p : ℕ) → Minus (look x₁.circuit) one.u p → Negative x₁.circuit p
    negative_new p (inl (l, r, q, v, w)) = record { minus = l; node = r; is_minus = v; there = has_used x₁.circuit one.u r w; is_product = inl q; hidden = inr (shape_loose r w) }
    negative_new p (inr (l, r, q, v, w)) = record { minus = r; node = l; is_minus = w; there = has_used x₁.circuit one.u l v; is_product = inr q; hidden = inr (shape_loose l v) }

    pub less_new : Less x₁.circuit one.y one.q
    less_new = go one.st.step.gap
      where
        go : Gap (look x₁.circuit) one.y one.u one.q → Less x₁.circuit one.y one.q
        go (sum n p h k e) = record { input = n; product = p; is_input = h; is_sum = inl e; negative = negative_new p k }
        go (swapped n p h k e) = record { input = n; product = p; is_input = h; is_sum = inr e; negative = negative_new p k }
