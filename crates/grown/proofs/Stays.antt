-- A tree without the chosen node in it stays as it is: its nodes' expressions, marks and counts, and so the tree. Assumes nothing.
use Rattle.std.specs.Prelude.{Some}
use Prim.Native.Nat.{ℕ}
use mathlib.Core.Path.{◌≡◌, refl, sym, ◌∙◌, ap}
use mathlib.Core.Logic.{◌≢◌, ◌⊎◌, inl, inr}
use mathlib.Core.Bool.{Bool, true, false}
use mathlib.Core.List.{List, [], ◌∷◌}
use Rattle.layout.specs.declared.node.Position.{Position}
use Rattle.layout.specs.declared.node.Node.{Node}
use Rattle.layout.specs.Lists.{In}
use Rattle.layout.specs.Words.{node_at, expression_at, registered}
use Rattle.layout.specs.Tree.{Tree, leaf, branch, tree}
use Rattle.walking.specs.Paths.{walk}
use Rattle.lowering.specs.Lowering.{Lowering}
use Rattle.lowering.proofs.Shape.{Expr, leaf_e, op_e, Shape, shape, Look, Unf}
use Rattle.lowering.proofs.Steps.{Moved, Move}
use Rattle.lowering.proofs.ListLaws.{in_cases, in_left, in_right}
use Rattle.lowering.proofs.Words.{look, look_lt, look_is, says, Tru, tree_of, true_shape}
use Rattle.lowering.proofs.Chooses.{walk_top}
use Rattle.lowering.proofs.OneMore.{OneMore}
use Rattle.grown.specs.Order.{Unaltered}
use Rattle.grown.proofs.Passing.{one_true}

-- an operand that isn't the chosen node stays
operand_stays : {s n l l' : ℕ} → l ≢ s → Moved s n l l' → l' ≡ l
operand_stays h (inl e) = e
operand_stays h (inr (e, k)) = absurd (h e)

abbrev Says : Look → Look → ℕ → Type 0
Says c c' j = (e : Expr) × (c j ≡ Some e) × (c' j ≡ Some e)

-- each node of a tree without the chosen node says what it said
pub record SameTree (c c' : Look) (t : Tree) (i : ℕ) : Type 0 where
  pub tree : Tru c' t i
  pub says : (j : ℕ) → In j (walk t) → Says c c' j

module _ {c c' : Look} {s n : ℕ} {y : Position} {u : Shape} (move : Move c c' s n y u) where
  pub true_kept : (t : Tree) (i : ℕ) → Tru c t i → ((j : ℕ) → In j (walk t) → j ≢ s) → SameTree c c' t i
  unfolding walk
  true_kept (leaf j a) i (e, p) h =
      let (e', p', k) = move.old i (leaf_e a) p in
      let q : c' i ≡ Some (leaf_e a) = p' ∙ ap Some k in
      record { tree = (e, q); says = λ z w. here z w (p, q) }
    where
      here : (z : ℕ) → In z (j ∷ []) → (c i ≡ Some (leaf_e a)) × (c' i ≡ Some (leaf_e a)) → Says c c' z
      here z (inl w) (p, q) = let d : z ≡ i = w ∙ e in (leaf_e a, rw d p, rw d q)
      here z (inr w) b = absurd w
  true_kept (branch j o a b) i (e, l, r, p, v, w) h =
      let (e', p', (l', r', k, ml, mr)) = move.old i (op_e o l r) p in
      let el : l' ≡ l = operand_stays (h l (in_left l (walk a) (j ∷ walk b) (walk_top c a l v))) ml in
      let er : r' ≡ r = operand_stays (h r (in_right r (walk a) (j ∷ walk b) (inr (walk_top c b r w)))) mr in
      let q : c' i ≡ Some (op_e o l r) = cc in
      let f = true_kept a l v (λ z d. h z (in_left z (walk a) (j ∷ walk b) d)) in
      let g = true_kept b r w (λ z d. h z (in_right z (walk a) (j ∷ walk b) (inr d))) in
      record { tree = (e, l, r, q, f.tree, g.tree); says = λ z d. here z (f.says z) (g.says z) q (in_cases z (walk a) (j ∷ walk b) d) }
    where
      here : (z : ℕ) → (In z (walk a) → Says c c' z) → (In z (walk b) → Says c c' z) → c' i ≡ Some (op_e o l r) → In z (walk a) ⊎ In z (j ∷ walk b) → Says c c' z
      here z f g q (inl d) = f d
      here z f g q (inr (inl d)) = let d' : z ≡ i = d ∙ e in (op_e o l r, rw d' p, rw d' q)
      here z f g q (inr (inr d)) = g d

-- a node by its three parts
node_is : (a b : Node) → a.expression ≡ b.expression → a.registered ≡ b.registered → a.references ≡ b.references → a ≡ b
node_is a b p q r = λ i. record { expression = p i; registered = q i; references = r i }

module _ {T mc ac : ℕ} (x x₁ : Lowering) (one : OneMore T mc ac x x₁) where
  node_stays : (j : ℕ) (e : Expr) → look x.circuit j ≡ Some e → look x₁.circuit j ≡ Some e → j ≢ one.s → node_at x₁.circuit j ≡ node_at x.circuit j
  node_stays j e p q h =
      node_is (node_at x₁.circuit j) (node_at x.circuit j) (says x₁.circuit j (expression_at x.circuit j) (q ∙ ap Some (sym (look_is x.circuit j e p))))
      (mark (registered x.circuit j) refl) (one.counts j (look_lt x.circuit j e p))
    where
      mark : (b : Bool) → registered x.circuit j ≡ b → registered x₁.circuit j ≡ registered x.circuit j
      mark true k = one.st.marks j e p k h ∙ sym k
      mark false k = one.loose j (look_lt x.circuit j e p) k ∙ sym k

  -- what doesn't hold the chosen node is unaltered
  pub stays : (t : Shape) (q : ℕ) → Unf (look x.circuit) t q → ((z : ℕ) → In z (walk (tree x.circuit q)) → z ≢ one.s) → Unaltered x.circuit x₁.circuit q
  stays t q w h =
      let k = true_kept one.st.step.move (tree x.circuit q) q (tree_of x.circuit t q w) h in
      record {
        nodes = λ i d. let (e, a, b) = k.says i d in node_stays i e a b (h i d);
        tree = one_true (look x₁.circuit) (tree x₁.circuit q) (tree x.circuit q) q (tree_of x₁.circuit (shape (tree x.circuit q)) q (true_shape (look x₁.circuit) (tree x.circuit q) q k.tree)) k.tree;
      }

-- from step to step
pub unaltered_none : (m : List ℕ) (q : ℕ) → Unaltered m m q
unaltered_none m q = record { nodes = λ i h. refl; tree = refl }

pub unaltered_then : (a b c : List ℕ) (q : ℕ) → Unaltered a b q → Unaltered b c q → Unaltered a c q
unaltered_then a b c q f g = record {
  nodes = λ i h. g.nodes i (rw f.tree h) ∙ f.nodes i h;
  tree = g.tree ∙ f.tree;
}
