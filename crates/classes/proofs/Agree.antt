-- Nodes have one class number exactly when they are equal by structure. Assumes nothing.
use Prim.Native.Nat.{ℕ, zero, suc, ◌<◌}
use mathlib.Core.Path.{◌≡◌, refl, sym, ap, ◌∙◌}
use mathlib.Core.Bool.{true, false, ◌||◌}
use mathlib.Core.List.{List}
use native.Mathlib.Omega.{arith}
use Rattle.layout.specs.declared.node.Op.{Op}
use Rattle.layout.specs.declared.node.Expression.{Expression}
use Rattle.layout.specs.declared.node.Expression.TheVariants.{Base, Extension, Challenge, Operation, Input}
use Rattle.layout.specs.Words.{used, expression_at, encode}
use Rattle.layout.specs.NotCircuit.{goes_on, not_circuit}
use Rattle.layout.specs.Tree.{Leaf, base_leaf, extension_leaf, challenge_leaf, input_leaf, Tree, leaf, branch, tree_over, tree, plain}
use Rattle.circuit.specs.Rank.{at}
use Rattle.layout.proofs.Tests.{neither}
use Rattle.layout.proofs.Lists.{clash}
use Rattle.layout.proofs.Valid.{valid_operands, valid_ends}
use Rattle.layout.proofs.Trees.{tree_fixed}
use Rattle.classes.specs.Table.{entry}
use Rattle.classes.specs.Numbers.{key_of, Numbered, itself}
use Rattle.classes.proofs.Shapes.{shape, encode_one, plain_one}

-- each follows from the other
pub record Iff (A B : Type 0) : Type 0 where
  pub there : A → B
  pub back : B → A

-- an expression is a leaf or an operation
data View : Expression → Type 0 where
  is_leaf : (a : Leaf) → View (plain a)
  is_operation : (o : Op) (l r : ℕ) → View (Operation o l r)

view : (e : Expression) → View e
view (Base w) = is_leaf (base_leaf w)
view (Extension x) = is_leaf (extension_leaf x)
view (Challenge k) = is_leaf (challenge_leaf k)
view (Operation o l r) = is_operation o l r
view (Input q) = is_leaf (input_leaf q)

leaf_key : (num : List ℕ) (a : Leaf) → key_of num (plain a) ≡ encode (plain a)
unfolding key_of
leaf_key num (base_leaf w) = refl
leaf_key num (extension_leaf x) = refl
leaf_key num (challenge_leaf k) = refl
leaf_key num (input_leaf q) = refl

leaf_shape : (i : ℕ) (a : Leaf) (f : ℕ → Tree) → shape (tree_over i (plain a) f) ≡ leaf 0 a
unfolding shape
leaf_shape i (base_leaf w) f = refl
leaf_shape i (extension_leaf x) f = refl
leaf_shape i (challenge_leaf k) f = refl
leaf_shape i (input_leaf q) f = refl

no_leaf : (a : Leaf) (o : Op) (l r : ℕ) → plain a ≡ Operation o l r → ⊥
no_leaf (base_leaf w) o l r h = let z : ◌≡◌ {A = ℕ} 0 1 = cc in omega arith
no_leaf (extension_leaf x) o l r h = let z : ◌≡◌ {A = ℕ} 0 1 = cc in omega arith
no_leaf (challenge_leaf k) o l r h = let z : ◌≡◌ {A = ℕ} 0 1 = cc in omega arith
no_leaf (input_leaf q) o l r h = let z : ◌≡◌ {A = ℕ} 0 1 = cc in omega arith

module _ (num : List ℕ) (f : ℕ → Tree) where
  -- the numbers of i and j are one exactly when their shapes are
  abbrev pub Agree : ℕ → ℕ → Type 0
  Agree i j = Iff (at num i ≡ at num j) (shape (f i) ≡ shape (f j))

  -- the operands of two expressions agree, side by side
  abbrev pub Operands : Expression → Expression → Type 0
  Operands e d = (o : Op) (l r : ℕ) → e ≡ Operation o l r → (q : Op) (s t : ℕ) → d ≡ Operation q s t → Agree l s × Agree r t

  key_view : (i j : ℕ) {e d : Expression} → View e → View d → Operands e d → Iff (key_of num e ≡ key_of num d) (shape (tree_over i e f) ≡ shape (tree_over j d f))
  unfolding key_of shape
  key_view i j (is_leaf a) (is_leaf b) g = record {
    there = λ h. leaf_shape i a f ∙ ap (leaf 0) (plain_one a b (encode_one (plain a) (plain b) (sym (leaf_key num a) ∙ h ∙ leaf_key num b))) ∙ sym (leaf_shape j b f);
    back = λ h.
        let z : leaf 0 a ≡ leaf 0 b = sym (leaf_shape i a f) ∙ h ∙ leaf_shape j b f in
        let e : a ≡ b = cc in
        rw e;
  }
  key_view i j (is_leaf a) (is_operation q s t) g = record {
    there = λ h. absurd (no_leaf a q (at num s) (at num t) (encode_one (plain a) (Operation q (at num s) (at num t)) (sym (leaf_key num a) ∙ h)));
    back = λ h. let z : leaf 0 a ≡ branch 0 q (shape (f s)) (shape (f t)) = sym (leaf_shape i a f) ∙ h in cc;
  }
  key_view i j (is_operation o l r) (is_leaf b) g = record {
    there = λ h. absurd (no_leaf b o (at num l) (at num r) (encode_one (plain b) (Operation o (at num l) (at num r)) (sym (leaf_key num b) ∙ sym h)));
    back = λ h. let z : leaf 0 b ≡ branch 0 o (shape (f l)) (shape (f r)) = sym (leaf_shape j b f) ∙ sym h in cc;
  }
  key_view i j (is_operation o l r) (is_operation q s t) g =
      let (a, b) = g o l r refl q s t refl in
      record {
        there = λ h.
            let z = encode_one (Operation o (at num l) (at num r)) (Operation q (at num s) (at num t)) h in
            let x : o ≡ q = cc in
            let y : at num l ≡ at num s = cc in
            let w : at num r ≡ at num t = cc in
            rw (x, a.there y, b.there w);
        back = λ h.
            let x : o ≡ q = cc in
            let y : shape (f l) ≡ shape (f s) = cc in
            let w : shape (f r) ≡ shape (f t) = cc in
            rw (x, a.back y, b.back w);
      }

  pub key_shape : (i j : ℕ) (e d : Expression) → Operands e d → Iff (key_of num e ≡ key_of num d) (shape (tree_over i e f) ≡ shape (tree_over j d f))
  key_shape i j e d g = key_view i j (view e) (view d) g

module _ (m num t : List ℕ) (v : not_circuit m ≡ false) (n : Numbered m itself (used m) num t) where
  -- one number, one key
  number_key : (i j : ℕ) → i < used m → j < used m → Iff (at num i ≡ at num j) (key_of num (expression_at m i) ≡ key_of num (expression_at m j))
  number_key i j a b =
      let x = n.filed i a in
      let y = n.filed j b in
      record {
        there = λ h. sym x.entered ∙ ap (entry t) h ∙ y.entered;
        back = λ h. n.tabled.distinct (at num i) (at num j) x.low x.high y.low y.high (x.entered ∙ h ∙ sym y.entered);
      }

  agree_to : (k i j : ℕ) → i < used m → j < used m → goes_on m k i ≡ false → Agree num (tree m) i j
  unfolding goes_on
  agree_to zero i j a b g = clash true refl g
  agree_to (suc k) i j a b g =
      let e = number_key i j a b in
      let s = key_shape num (tree m) i j (expression_at m i) (expression_at m j)
      (λ o l r p q u w z.
      let (cl, cr) = valid_operands m v i a o l r p in
      let (cu, cw) = valid_operands m v j b q u w z in
      let h : (goes_on m k l || goes_on m k r) ≡ false = rw p at g in
      let (gl, gr) = neither (goes_on m k l) (goes_on m k r) h in
      (agree_to k l u cl cu gl, agree_to k r w cr cw gr)) in
      record {
        there = λ h. ap shape (tree_fixed m v i a) ∙ s.there (e.there h) ∙ sym (ap shape (tree_fixed m v j b));
        back = λ h. e.back (s.back (sym (ap shape (tree_fixed m v i a)) ∙ h ∙ ap shape (tree_fixed m v j b)));
      }

  pub agree : (i j : ℕ) → i < used m → j < used m → Agree num (tree m) i j
  agree i j a b = agree_to (used m) i j a b (valid_ends m v i a)
