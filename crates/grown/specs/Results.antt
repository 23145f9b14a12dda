-- What building gives, as trees: the operation of its operands' trees, up to simplification, folding and operand order. And circuits in which no
-- two registered nodes are equal. Assumes nothing.
use Rattle.std.specs.Prelude.{ℕ, ◌<◌, ◌≡◌, Bool, true, false, ◌||◌, List, [], ◌∷◌, Option, None, Some}
use Rattle.arithmetic.specs.declared.Triple.{Triple}
use Rattle.arithmetic.specs.Base.{minus_one}
use Rattle.arithmetic.specs.Extension.{lift}
use Rattle.layout.specs.declared.node.Op.{Op}
use Rattle.layout.specs.declared.node.Op.TheVariants.{Add, Multiply}
use Rattle.layout.specs.declared.node.Expression.{Expression}
use Rattle.layout.specs.Words.{used, registered, constant, apply}
use Rattle.layout.specs.Tree.{base_leaf, extension_leaf, challenge_leaf, input_leaf, Tree, leaf, branch, tree_over, tree, same}

-- the constant that a tree is
abbrev pub constant_tree : Tree → Option Triple
constant_tree (leaf i (base_leaf w)) = Some (lift w)
constant_tree (leaf i (extension_leaf x)) = Some x
constant_tree (leaf i (challenge_leaf k)) = None
constant_tree (leaf i (input_leaf q)) = None
constant_tree (branch i o l r) = None

-- the tree of a leaf
abbrev pub leaf_tree : ℕ → Expression → Tree
leaf_tree i e = tree_over i e (λ j. leaf j (base_leaf 0))

-- u is what adding or multiplying s and t gives
pub data Operated : Op → Tree → Tree → Tree → Type 0 where
  plus_zero : {s t : Tree} → constant_tree t ≡ Some (lift 0) → Operated Add s t s
  zero_plus : {s t : Tree} → constant_tree s ≡ Some (lift 0) → Operated Add s t t
  times_one : {s t : Tree} → constant_tree t ≡ Some (lift 1) → Operated Multiply s t s
  one_times : {s t : Tree} → constant_tree s ≡ Some (lift 1) → Operated Multiply s t t
  times_zero : {s t : Tree} → constant_tree t ≡ Some (lift 0) → Operated Multiply s t t
  zero_times : {s t : Tree} → constant_tree s ≡ Some (lift 0) → Operated Multiply s t s
  folded : {o : Op} {s t u : Tree} (i : ℕ) (x y : Triple) → constant_tree s ≡ Some x → constant_tree t ≡ Some y → same u (leaf_tree i (constant (apply o x y))) ≡ true → Operated o s t u
  swapped : {o : Op} {s t u : Tree} (i : ℕ) → same u (branch i o t s) ≡ true → Operated o s t u
  straight : {o : Op} {s t u : Tree} (i : ℕ) → same u (branch i o s t) ≡ true → Operated o s t u

-- u is (-1)·s
pub record Negated (s u : Tree) : Type 0 where
  pub minus : ℕ
  pub product : Operated Multiply (leaf minus (base_leaf minus_one)) s u

-- u is s + (-t)
pub record Subtracted (s t u : Tree) : Type 0 where
  pub negative : Tree
  pub negates : Negated t negative
  pub sum : Operated Add s negative u

-- u is s and each of ts, added from the left
pub data Summed : Tree → List Tree → Tree → Type 0 where
  ends : {s : Tree} → Summed s [] s
  adds : {s t v u : Tree} {ts : List Tree} → Operated Add s t v → Summed v ts u → Summed s (t ∷ ts) u

-- with its operands exchanged
abbrev pub turned : Tree → Tree
turned (leaf i a) = leaf i a
turned (branch i o l r) = branch i o r l

-- equal by structure, in either order of the operands
unfoldable pub alike : Tree → Tree → Bool
alike s t = same s t || same s (turned t)

-- no two registered nodes are alike
pub record Unique (m : List ℕ) : Type 0 where
  pub apart : (i j : ℕ) → i < j → j < used m → registered m i ≡ true → registered m j ≡ true → alike (tree m i) (tree m j) ≡ false
