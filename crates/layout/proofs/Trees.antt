-- A node's tree is its expression over its operands' trees: used levels are enough. Assumes nothing.
use Prim.Native.Nat.{ℕ, zero, suc, ◌<◌}
use mathlib.Core.Path.{◌≡◌, refl}
use mathlib.Core.Bool.{true, false, ◌||◌}
use mathlib.Core.List.{List}
use lib.Dec.{ltb, leb}
use borrow.Author.Tests.{leb-false}
use Rattle.layout.specs.declared.node.Op.{Op}
use Rattle.layout.specs.declared.node.Expression.{Expression}
use Rattle.layout.specs.declared.node.Expression.TheVariants.{Base, Extension, Challenge, Operation, Input}
use Rattle.layout.specs.Words.{used, word, expression_at}
use Rattle.layout.specs.NotCircuit.{bad_expression, bad_node, goes_on, not_circuit}
use Rattle.layout.specs.Tree.{Tree, tree_over, unfolded, tree}
use Rattle.layout.proofs.Tests.{neither}
use Rattle.layout.proofs.Lists.{clash}
use Rattle.layout.proofs.Valid.{valid_ends}

-- the operands of a node without fault are nodes
pub operands_below : (m : List ℕ) (i : ℕ) → bad_node m i ≡ false → (o : Op) (l r : ℕ) → expression_at m i ≡ Operation o l r → (l < used m) × (r < used m)
unfolding bad_node bad_expression
operands_below m i g o l r e =
    let n = (neither (ltb 1 (word m i 4)) (bad_expression m (expression_at m i)) (neither (ltb 8 (word m i 0)) (ltb 1 (word m i 4) || bad_expression m (expression_at m i)) g).1).1 in
    let h : (leb (used m) l || leb (used m) r) ≡ false = rw e at n in
    let (a, b) = neither (leb (used m) l) (leb (used m) r) h in
    (leb-false (used m) l a, leb-false (used m) r b)

-- a tree over operands is the same where what is below them is
pub over_same : (i : ℕ) (e : Expression) (f g : ℕ → Tree) → ((o : Op) (l r : ℕ) → e ≡ Operation o l r → (f l ≡ g l) × (f r ≡ g r)) → tree_over i e f ≡ tree_over i e g
over_same i (Base w) f g h = refl
over_same i (Extension x) f g h = refl
over_same i (Challenge k) f g h = refl
over_same i (Operation o l r) f g h = let (a, b) = h o l r refl in rw (a, b)
over_same i (Input q) f g h = refl

-- a path that ends within so many levels: one level more changes nothing
pub levels_enough : (m : List ℕ) (levels i : ℕ) → goes_on m levels i ≡ false → unfolded m levels i ≡ unfolded m (suc levels) i
unfolding goes_on unfolded
levels_enough m zero i g = clash true refl g
levels_enough m (suc levels) i g =
    over_same i (expression_at m i) (unfolded m levels) (unfolded m (suc levels))
    (λ o l r e.
    let h : (goes_on m levels l || goes_on m levels r) ≡ false = rw e at g in
    let (a, b) = neither (goes_on m levels l) (goes_on m levels r) h in
    (levels_enough m levels l a, levels_enough m levels r b))

-- the law that every reading uses
pub tree_fixed : (m : List ℕ) → not_circuit m ≡ false → (i : ℕ) → i < used m → tree m i ≡ tree_over i (expression_at m i) (tree m)
unfolding unfolded
tree_fixed m v i h = levels_enough m (used m) i (valid_ends m v i h)
