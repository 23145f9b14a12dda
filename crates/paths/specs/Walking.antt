-- The walk with a stack: what its inner calls ask and answer. Assumes nothing.
use Rattle.std.specs.Prelude.{ℕ, zero, suc, ◌+◌, ◌<◌, ◌≤◌, min, max, ◌≡◌, false, List, [], ◌∷◌, ◌++◌, length, drop, None, Option, Some}
use Rattle.std.proofs.lemmas.List.Edits.{sets}
use Rattle.layout.specs.Words.{used, expression_at}
use Rattle.layout.specs.NotCircuit.{not_circuit, bad_id}
use Rattle.layout.specs.Tree.{Tree, leaf, branch, tree}
use Rattle.circuit.specs.Walk.{step_of}
use Rattle.circuit.specs.Rank.{at, Sorted}
use Rattle.walking.specs.Paths.{walk, walks}

-- tree sizes, told apart up to the top
pub record Sizes (m sizes : List ℕ) (top : ℕ) : Type 0 where
  pub told : (i : ℕ) → i < used m → at sizes i ≡ min top (length (walk (tree m i)))

-- a top whose double doesn't wrap, and room for each node
pub record Sizable (m order rank sizes : List ℕ) (top : ℕ) : Type 0 where
  pub valid : not_circuit m ≡ false
  pub sorted : Sorted m order rank
  pub order_room : 4096 ≤ length order
  pub room : 4096 ≤ length sizes
  pub small : top ≤ 1152921504606846976

-- node i, whose operands have their sizes
pub record Sizing (m sizes : List ℕ) (top i : ℕ) : Type 0 where
  pub valid : not_circuit m ≡ false
  pub here : i < used m
  pub room : 4096 ≤ length sizes
  pub small : top ≤ 1152921504606846976
  pub operands : (l r : ℕ) → step_of (expression_at m i) ≡ Some (l, r) → (at sizes l ≡ min top (length (walk (tree m l)))) × (at sizes r ≡ min top (length (walk (tree m r))))

pub record Summing (m roots sizes : List ℕ) (top : ℕ) : Type 0 where
  pub sizes_told : Sizes m sizes top
  pub ids : bad_id m roots ≡ false
  pub top_nodes : used m ≤ 4096
  pub room : 4096 ≤ length sizes
  pub small : top ≤ 1152921504606846976

pub record Measuring (m order rank roots : List ℕ) (top : ℕ) : Type 0 where
  pub valid : not_circuit m ≡ false
  pub sorted : Sorted m order rank
  pub order_room : 4096 ≤ length order
  pub ids : bad_id m roots ≡ false
  pub small : top ≤ 1152921504606846976

-- how many levels a tree has
unfoldable pub height : Tree → ℕ
height (leaf i a) = 1
height (branch i o l r) = 1 + max (height l) (height r)

-- what comes after a node in its walk: the right subtree
abbrev pub right_walk : List ℕ → Option (ℕ × ℕ) → List ℕ
right_walk m None = []
right_walk m (Some (l, r)) = walk (tree m r)

-- what is still to come: each node on the stack, from the top, and its right subtree
unfoldable pub pending : List ℕ → List ℕ → ℕ → List ℕ
pending m stack zero = []
pending m stack (suc depth) = at stack depth ∷ (right_walk m (step_of (expression_at m (at stack depth))) ++ pending m stack depth)

-- node i at this depth of a stack: its levels have room within the used count
pub record Level (m : List ℕ) (i depth : ℕ) : Type 0 where
  pub here : i < used m
  pub levels : depth + height (tree m i) ≤ used m

pub record Stacked (m stack : List ℕ) (depth : ℕ) : Type 0 where
  pub nodes : (k : ℕ) → k < depth → Level m (at stack k) k

pub record Descending (m stack : List ℕ) (i depth : ℕ) : Type 0 where
  pub valid : not_circuit m ≡ false
  pub room : used m ≤ length stack
  pub stacked : Stacked m stack depth
  pub level : Level m i depth

-- a stack on which more is to come; words at or above the used count stay
pub record Descended (m before after ids : List ℕ) (depth answer : ℕ) : Type 0 where
  pub stacked : Stacked m after answer
  pub comes : pending m after answer ≡ ids ++ pending m before depth
  pub beyond : drop (used m) after ≡ drop (used m) before

-- the walk from a root has room in the list, from a place on
pub record Walking (m list stack : List ℕ) (root place : ℕ) : Type 0 where
  pub valid : not_circuit m ≡ false
  pub here : root < used m
  pub stack_room : used m ≤ length stack
  pub list_room : place + length (walk (tree m root)) ≤ length list

-- ids written to the list from a place on
pub record Walked (m list stack list' stack' ids : List ℕ) (place answer : ℕ) : Type 0 where
  pub listed : list' ≡ sets list place ids
  pub beyond : drop (used m) stack' ≡ drop (used m) stack
  pub next : answer ≡ place + length ids

pub record WalkingAll (m roots list stack : List ℕ) : Type 0 where
  pub valid : not_circuit m ≡ false
  pub ids : bad_id m roots ≡ false
  pub stack_room : used m ≤ length stack
  pub list_room : length (walks m roots) ≤ length list
