-- An operation's step: what is built, and its tree. Assumes nothing.
use Rattle.std.specs.Prelude.{if◌then◌else◌, Option, None, Some}
use Prim.Native.Nat.{ℕ, ◌<◌}
use mathlib.Core.Path.{◌≡◌, refl, ap, ◌∙◌}
use mathlib.Core.Bool.{Bool, true, false}
use mathlib.Core.List.{List}
use borrow.Author.Tests.{eqb-true}
use Rattle.arithmetic.specs.declared.Triple.{Triple}
use Rattle.arithmetic.specs.Extension.{lift, unlifts}
use Rattle.layout.specs.declared.node.Op.{Op}
use Rattle.layout.specs.declared.node.Op.TheVariants.{Add, Multiply}
use Rattle.layout.specs.declared.node.Expression.{Expression}
use Rattle.layout.specs.declared.node.Expression.TheVariants.{Base, Extension, Challenge, Operation, Input}
use Rattle.layout.specs.Words.{used, expression_at, constant_of, constant, constant_is, is_constant, apply}
use Rattle.layout.specs.NotCircuit.{not_circuit}
use Rattle.layout.specs.Tree.{Tree, tree_over, tree, tree_of, same}
use Rattle.layout.proofs.Tests.{or-false}
use Rattle.layout.proofs.Lists.{clash}
use Rattle.layout.proofs.Trees.{tree_fixed}
use Rattle.building.specs.Building.{Built, built, find, or_else, find_or_make, either_order, folded_or, folding, operate, full}
use Rattle.grown.specs.Results as results
use Rattle.grown.specs.Results.{constant_tree, Operated, alike}
use Rattle.build.proofs.Stepping.{find_below_lem, good_operation, constant_good, apply_canonical}
use Rattle.grown.proofs.Built.{Builds, builds_none}
use Rattle.grown.proofs.Found.{found_same, found_other, find_builds, IsLeaf, leaf_builds}

pub constant_leaf : (x : Triple) → IsLeaf (constant x)
unfolding constant
constant_leaf x = go (unlifts x)
  where
    go : (b : Bool) → IsLeaf (if b then Base x.c0 else Extension x)
    go true = tt
    go false = tt

constant_of_tree : (m : List ℕ) (i : ℕ) → not_circuit m ≡ false → i < used m → constant_tree (tree m i) ≡ constant_of (expression_at m i)
constant_of_tree m i valid l = ap constant_tree (tree_fixed m valid i l) ∙ go (expression_at m i)
  where
    go : (e : Expression) → constant_tree (tree_over i e (tree m)) ≡ constant_of e
    go (Base w) = refl
    go (Extension x) = refl
    go (Challenge k) = refl
    go (Operation o a b) = refl
    go (Input q) = refl

constant_is_lem : (w : ℕ) (e : Expression) → constant_is w e ≡ true → constant_of e ≡ Some (lift w)
constant_is_lem w (Base v) h = ap (λ (x : ℕ). Some (lift x)) (eqb-true v w h)
constant_is_lem w (Extension x) h = clash false h refl
constant_is_lem w (Challenge k) h = clash false h refl
constant_is_lem w (Operation o a b) h = clash false h refl
constant_is_lem w (Input q) h = clash false h refl

-- an operation's step: what is built of m, and its tree
pub record Operates (m : List ℕ) (b : Built) (o : Op) (s t : Tree) : Type 0 where
  pub builds : Builds m b
  pub result : Operated o s t (tree b.circuit b.id)

module _ (m : List ℕ) (l r : ℕ) (valid : not_circuit m ≡ false) (left : l < used m) (right : r < used m) where
  tests_tree : (w i : ℕ) → i < used m → is_constant w m i ≡ true → constant_tree (tree m i) ≡ Some (lift w)
  unfolding is_constant
  tests_tree w i h e = constant_of_tree m i valid h ∙ constant_is_lem w (expression_at m i) e

  either_operates : (o : Op) → full m (either_order m o l r) ≡ false → Operates m (either_order m o l r) o (tree m l) (tree m r)
  unfolding either_order alike
  either_operates o = go (find m (Operation o r l)) refl
    where
      go : (f : Option ℕ) → find m (Operation o r l) ≡ f → full m (or_else f m (find_or_make m (Operation o l r))) ≡ false → Operates m (or_else f m (find_or_make m (Operation o l r))) o (tree m l) (tree m r)
      go (Some i) q h = record { builds = builds_none m i valid (find_below_lem m (Operation o r l) i q); result = results.swapped (used m) (found_same m (Operation o r l) i q) }
      go None q h =
          let w =
          find_builds m (Operation o l r) valid (good_operation m o l r left right) h
          (λ j k g z. or-false (same (tree m j) (tree_of m (Operation o l r))) (same (tree m j) (tree_of m (Operation o r l))) z (found_other m (Operation o r l) q j k g)) in
          record { builds = w.builds; result = results.straight (used m) w.equal }

  folding_operates : (o : Op) → full m (folding m o l r) ≡ false → Operates m (folding m o l r) o (tree m l) (tree m r)
  unfolding folding
  folding_operates o = go (constant_of (expression_at m l)) (constant_of (expression_at m r)) (constant_of_tree m l valid left) (constant_of_tree m r valid right)
    where
      go : (x y : Option Triple) → constant_tree (tree m l) ≡ x → constant_tree (tree m r) ≡ y → full m (folded_or x y m o l r) ≡ false → Operates m (folded_or x y m o l r) o (tree m l) (tree m r)
      go (Some x) (Some y) p q h =
          let w = leaf_builds m (constant (apply o x y)) valid (constant_good m (apply o x y) (apply_canonical o x y)) (constant_leaf (apply o x y)) h in
          record { builds = w.builds; result = results.folded (used m) x y p q w.equal }
      go (Some x) None p q h = either_operates o h
      go None y p q h = either_operates o h

  pub operate_operates : (o : Op) → full m (operate m o l r) ≡ false → Operates m (operate m o l r) o (tree m l) (tree m r)
  unfolding operate
  operate_operates Add = go (is_constant 0 m r) (is_constant 0 m l) (tests_tree 0 r right) (tests_tree 0 l left)
    where
      go : (a b : Bool) → (a ≡ true → constant_tree (tree m r) ≡ Some (lift 0)) → (b ≡ true → constant_tree (tree m l) ≡ Some (lift 0)) → full m (if a then built m l else if b then built m r else folding m Add l r) ≡ false → Operates m (if a then built m l else if b then built m r else folding m Add l r) Add (tree m l) (tree m r)
      go true b p q h = record { builds = builds_none m l valid left; result = results.plus_zero (p refl) }
      go false true p q h = record { builds = builds_none m r valid right; result = results.zero_plus (q refl) }
      go false false p q h = folding_operates Add h
  operate_operates Multiply = go (is_constant 1 m r) (is_constant 1 m l) (is_constant 0 m r) (is_constant 0 m l) (tests_tree 1 r right) (tests_tree 1 l left) (tests_tree 0 r right) (tests_tree 0 l left)
    where
      go : (a b c d : Bool) → (a ≡ true → constant_tree (tree m r) ≡ Some (lift 1)) → (b ≡ true → constant_tree (tree m l) ≡ Some (lift 1)) → (c ≡ true → constant_tree (tree m r) ≡ Some (lift 0)) → (d ≡ true → constant_tree (tree m l) ≡ Some (lift 0))
          → full m (if a then built m l else if b then built m r else if c then built m r else if d then built m l else folding m Multiply l r) ≡ false
          → Operates m (if a then built m l else if b then built m r else if c then built m r else if d then built m l else folding m Multiply l r) Multiply (tree m l) (tree m r)
      go true b c d p q s t h = record { builds = builds_none m l valid left; result = results.times_one (p refl) }
      go false true c d p q s t h = record { builds = builds_none m r valid right; result = results.one_times (q refl) }
      go false false true d p q s t h = record { builds = builds_none m r valid right; result = results.times_zero (s refl) }
      go false false false true p q s t h = record { builds = builds_none m l valid left; result = results.zero_times (t refl) }
      go false false false false p q s t h = folding_operates Multiply h
