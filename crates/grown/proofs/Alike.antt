-- Nodes that are alike, by their shapes; and one substitution makes no two old nodes alike that were not. Assumes nothing.
use Rattle.std.specs.Prelude.{Some}
use Prim.Native.Nat.{ℕ, ◌<◌}
use mathlib.Core.Path.{◌≡◌, refl, sym, ap, ◌∙◌}
use mathlib.Core.Logic.{◌⊎◌, inl, inr, ⊎_elim}
use mathlib.Core.Bool.{Bool, true, false, ◌||◌}
use mathlib.Core.List.{List}
use native.Mathlib.Decide.{ℕ_discrete, dec_lt}
use native.Mathlib.Omega.{arith}
use Rattle.layout.specs.declared.node.Position.{Position}
use Rattle.layout.specs.Words.{used, registered}
use Rattle.layout.specs.Tree.{Leaf, input_leaf, Tree, leaf, branch, tree, same}
use Rattle.layout.proofs.Lists.{clash}
use Rattle.lowering.proofs.Shape.{Expr, leaf_e, op_e, Shape, lf, op, shape, Look, Unf, sub}
use Rattle.lowering.proofs.Steps.{Move, Kept}
use Rattle.lowering.proofs.Unfold.{one_tree}
use Rattle.lowering.proofs.OneStep.{tree_after}
use Rattle.lowering.proofs.Count.{unf_some}
use Rattle.lowering.proofs.Finds.{same_shape, shape_same}
use Rattle.grown.specs.Results.{turned, alike, Unique}

-- a shape with its operands exchanged
abbrev turn : Shape → Shape
turn (lf a) = lf a
turn (op o a b) = op o b a

-- equal in either order of the operands
abbrev pub Like : Shape → Shape → Type 0
Like s t = (s ≡ t) ⊎ (s ≡ turn t)

turned_shape : (t : Tree) → shape (turned t) ≡ turn (shape t)
turned_shape (leaf i a) = refl
turned_shape (branch i o l r) = refl

or_cases : (a b : Bool) → (a || b) ≡ true → (a ≡ true) ⊎ (b ≡ true)
or_cases true b h = inl refl
or_cases false b h = inr h

pub alike_like : (s t : Tree) → alike s t ≡ true → Like (shape s) (shape t)
unfolding alike
alike_like s t h = ⊎_elim (λ k. inl (same_shape s t k)) (λ k. inr (same_shape s (turned t) k ∙ turned_shape t)) (or_cases (same s t) (same s (turned t)) h)

pub like_alike : (s t : Tree) → Like (shape s) (shape t) → alike s t ≡ true
unfolding alike
like_alike s t (inl h) = rw (shape_same s t h)
like_alike s t (inr h) = rw (shape_same s (turned t) (h ∙ sym (turned_shape t))) (or-true (same s t))
  where
    or-true : (a : Bool) → (a || true) ≡ true
    or-true true = refl
    or-true false = refl

-- not alike, where alike is absurd
pub unlike : (s t : Tree) → (Like (shape s) (shape t) → ⊥) → alike s t ≡ false
unlike s t h = go (alike s t) refl
  where
    go : (b : Bool) → alike s t ≡ b → b ≡ false
    go true e = absurd (h (alike_like s t e))
    go false e = refl

-- two registered nodes of one shape are one node
pub unique_one : (m : List ℕ) → Unique m → (i j : ℕ) → i < used m → j < used m → registered m i ≡ true → registered m j ≡ true → shape (tree m i) ≡ shape (tree m j) → i ≡ j
unique_one m v i j a b p q e = go (ℕ_discrete i j) (dec_lt i j)
  where
    apart : (i j : ℕ) → i < j → j < used m → registered m i ≡ true → registered m j ≡ true → shape (tree m i) ≡ shape (tree m j) → ⊥
    apart i j l b p q e = clash (alike (tree m i) (tree m j)) (like_alike (tree m i) (tree m j) (inl e)) (v.apart i j l b p q)

    go : Dec (i ≡ j) → Dec (i < j) → i ≡ j
    go (yes k) d = k
    go (no k) (yes l) = absurd (apart i j l b p q e)
    go (no k) (no l) = absurd (apart j i (omega arith) a q p (sym e))

module _ {s n : ℕ} {y : Position} {c c' : Look} {u : Shape} (st : Move c c' s n y u) where
  -- put what the input at y stands for in its place: what is alike then was alike before
  pub like_before : (t t₂ : Shape) (i j : ℕ) → Unf c t i → Unf c t₂ j → (t' t₂' : Shape) → Unf c' t' i → Unf c' t₂' j → Like t' t₂' → Like t t₂
  like_before t t₂ i j w w₂ t' t₂' v v₂ h =
      let (a, p, e) = tree_after st t i w in
      let (b, q, f) = tree_after st t₂ j w₂ in
      go t₂' (sym e ∙ ap (sub y u) (one_tree c' a t' i p v)) (sym f ∙ ap (sub y u) (one_tree c' b t₂' j q v₂)) h
    where
      go : (r : Shape) → t ≡ sub y u t' → t₂ ≡ sub y u r → Like t' r → Like t t₂
      go r e f (inl k) = inl (e ∙ ap (sub y u) k ∙ sym f)
      go (lf x) e f (inr k) = inl (e ∙ ap (sub y u) k ∙ sym f)
      go (op o a b) e f (inr k) = inr (e ∙ ap (sub y u) k ∙ ap turn (sym f))

  -- the new input is like no old node
  pub new_unlike : (t : Shape) (i : ℕ) → Unf c t i → (t' : Shape) → Unf c' t' i → Like t' (lf (input_leaf y)) → ⊥
  new_unlike t i w t' v h =
      let (e, p) = unf_some c t i w in
      let (e', p', k) = st.old i e p in
      go e p e' p' k (⊎_elim (λ q. q) (λ q. q) h)
    where
      go : (e : Expr) → c i ≡ Some e → (e' : Expr) → c' i ≡ Some e' → Kept s n e e' → t' ≡ lf (input_leaf y) → ⊥
      go (leaf_e x) p e' p' k q =
          let z : c' i ≡ Some (leaf_e (input_leaf y)) = rw q at v in
          let f : x ≡ input_leaf y = cc in
          st.fresh i (p ∙ ap (λ (l : Leaf). Some (leaf_e l)) f)
      go (op_e o l r) p e' p' (l', r', k, a, b) q =
          let z : c' i ≡ Some (leaf_e (input_leaf y)) = rw q at v in
          let x : ◌≡◌ {A = ℕ} 0 1 = cc in
          omega arith
