-- Document 01, "Readings": each worked out from its two operands' own answers, on the tree. Assumes nothing.
use Rattle.std.specs.Prelude.{ℕ, zero, suc, ◌+◌, max, Bool, true, false, ◌&&◌, length, ℤ, pos, negsuc, ltb, eqb, if◌then◌else◌}
use mathlib.Core.List.{List, map, foldr}
use Rattle.arithmetic.specs.declared.Triple.{Triple}
use Rattle.arithmetic.specs.Extension.{lift}
use Rattle.layout.specs.declared.node.Position.{Position}
use Rattle.layout.specs.declared.node.Position.TheVariants.{Main, Aux, NextMain, NextAux}
use Rattle.layout.specs.declared.node.Op.TheVariants.{Add, Multiply}
use Rattle.layout.specs.Lists.{distinct}
use Rattle.layout.specs.Words.{is_main, apply}
use Rattle.layout.specs.Tree.{Leaf, base_leaf, extension_leaf, challenge_leaf, input_leaf, Tree, leaf, branch, tree, same}
use Rattle.walking.specs.Paths.{walks}

-- DEGREE, as a number one higher, so that -1 is 0: a zero constant -1, other constants and challenges 0, input 1
abbrev pub leaf_degree⁺ : Leaf → ℕ
leaf_degree⁺ (base_leaf w) = if eqb w 0 then 0 else 1
leaf_degree⁺ (extension_leaf x) = 1
leaf_degree⁺ (challenge_leaf k) = 1
leaf_degree⁺ (input_leaf q) = 2

-- the sum, or -1 if either is -1
abbrev pub product_degree⁺ : ℕ → ℕ → ℕ
product_degree⁺ zero b = 0
product_degree⁺ (suc a) zero = 0
product_degree⁺ (suc a) (suc b) = suc (a + b)

-- add the larger; multiply the sum, or -1
unfoldable pub degree⁺ : Tree → ℕ
degree⁺ (leaf i a) = leaf_degree⁺ a
degree⁺ (branch i Add l r) = max (degree⁺ l) (degree⁺ r)
degree⁺ (branch i Multiply l r) = product_degree⁺ (degree⁺ l) (degree⁺ r)

-- the degree itself, from the number one higher
abbrev pub signed : ℕ → ℤ
signed zero = negsuc 0
signed (suc d) = pos d

-- node i has a degree above d
unfoldable pub above : ℕ → List ℕ → ℕ → Bool
above d m i = ltb (suc d) (degree⁺ (tree m i))

-- the highest degree of a list of roots; of no roots, -1
unfoldable pub highest⁺ : List ℕ → List ℕ → ℕ
highest⁺ m roots = foldr max 0 (map (λ i. degree⁺ (tree m i)) roots)

-- BASE TEST: yes for base constants and main inputs, no for extension constants, auxiliary inputs and challenges
abbrev pub leaf_is_base : Leaf → Bool
leaf_is_base (base_leaf w) = true
leaf_is_base (extension_leaf x) = false
leaf_is_base (challenge_leaf k) = false
leaf_is_base (input_leaf q) = is_main q

-- an operation when both operands pass
unfoldable pub is_base : Tree → Bool
is_base (leaf i a) = leaf_is_base a
is_base (branch i o l r) = is_base l && is_base r

-- VALUE, where the cells of the columns and the challenges hold these
pub record Assignment : Type 0 where
  pub main : ℕ → ℕ
  pub aux : ℕ → Triple
  pub next_main : ℕ → ℕ
  pub next_aux : ℕ → Triple
  pub challenges : ℕ → Triple

-- main inputs and base constants lifted
abbrev pub input_value : Assignment → Position → Triple
input_value s (Main c) = lift (s.main c)
input_value s (Aux c) = s.aux c
input_value s (NextMain c) = lift (s.next_main c)
input_value s (NextAux c) = s.next_aux c

-- a leaf's value
abbrev pub leaf_value : Assignment → Leaf → Triple
leaf_value s (base_leaf w) = lift w
leaf_value s (extension_leaf x) = x
leaf_value s (challenge_leaf k) = s.challenges k
leaf_value s (input_leaf q) = input_value s q

-- an operation's value, from its operands' values
unfoldable pub value : Assignment → Tree → Triple
value s (leaf i a) = leaf_value s a
value s (branch i o l r) = apply o (value s l) (value s r)

-- VISIBLE NODES: structural classes below a list of roots, roots included
unfoldable pub visible : List ℕ → List ℕ → ℕ
visible m roots = length (distinct same (map (tree m) (walks m roots)))
