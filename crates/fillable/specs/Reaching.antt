-- How far a node reads among the current row's main columns, or among its auxiliary ones: one above the highest, and 0 where it reads none. Assumes nothing.
use Rattle.std.specs.Prelude.{ℕ, suc, ◌≤◌, max, ◌≡◌, Bool, List, if◌then◌else◌}
use Rattle.layout.specs.declared.node.Position.{Position}
use Rattle.layout.specs.declared.node.Position.TheVariants.{Main, Aux, NextMain, NextAux}
use Rattle.layout.specs.declared.node.Op.{Op}
use Rattle.layout.specs.declared.node.Expression.{Expression}
use Rattle.layout.specs.declared.node.Expression.TheVariants.{Input}
use Rattle.layout.specs.Words.{column}
use Rattle.layout.specs.Tree.{Leaf, base_leaf, extension_leaf, challenge_leaf, input_leaf, Tree, leaf, branch, tree}
use Rattle.read.specs.Tables.{leaf_entry}

-- main columns where the test is true, auxiliary ones where it is false
abbrev pub input_reach : Bool → Position → ℕ
input_reach b (Main c) = if b then suc c else 0
input_reach b (Aux c) = if b then 0 else suc c
input_reach b (NextMain c) = 0
input_reach b (NextAux c) = 0

abbrev pub leaf_reach : Bool → Leaf → ℕ
leaf_reach b (base_leaf w) = 0
leaf_reach b (extension_leaf x) = 0
leaf_reach b (challenge_leaf k) = 0
leaf_reach b (input_leaf q) = input_reach b q

-- of a branch, the larger of both
unfoldable pub reach : Bool → Tree → ℕ
reach b (leaf i a) = leaf_reach b a
reach b (branch i o l r) = max (reach b l) (reach b r)

-- of node i
unfoldable pub reach_to : Bool → List ℕ → ℕ → ℕ
reach_to b m i = reach b (tree m i)

-- of a leaf alone
unfoldable pub reach_entry : Bool → Expression → ℕ
reach_entry b e = leaf_entry (leaf_reach b) 0 e

-- from those of both operands
abbrev pub reach_join : Op → ℕ → ℕ → ℕ
reach_join o a b = max a b

-- an expression whose column is within the bound
pub record Columned (e : Expression) : Type 0 where
  pub small : (q : Position) → e ≡ Input q → column q ≤ 65535
