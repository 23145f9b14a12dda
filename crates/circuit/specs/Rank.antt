-- The rank that the check for NOT_CIRCUIT hands on: the nodes in an order in which each stands after its operands. Assumes nothing.
use Rattle.std.specs.Prelude.{ℕ, ◌<◌, ◌≡◌, Bool, true, not, List, get_or}
use Rattle.layout.specs.declared.node.Op.{Op}
use Rattle.layout.specs.declared.node.Expression.TheVariants.{Operation}
use Rattle.layout.specs.Words.{used, expression_at}
use Rattle.layout.specs.NotCircuit.{not_circuit}

-- a number kept for node i, in a list of numbers
abbrev pub at : List ℕ → ℕ → ℕ
at xs i = get_or xs i 0

-- rank and order undo each other below the used count, and an operand's rank is below its node's
pub record Sorted (m order rank : List ℕ) : Type 0 where
  pub rank_below : (i : ℕ) → i < used m → at rank i < used m
  pub order_rank : (i : ℕ) → i < used m → at order (at rank i) ≡ i
  pub order_below : (q : ℕ) → q < used m → at order q < used m
  pub rank_order : (q : ℕ) → q < used m → at rank (at order q) ≡ q
  pub left_first : (i : ℕ) (o : Op) (l r : ℕ) → i < used m → expression_at m i ≡ Operation o l r → at rank l < at rank i
  pub right_first : (i : ℕ) (o : Op) (l r : ℕ) → i < used m → expression_at m i ≡ Operation o l r → at rank r < at rank i

-- what a check answers of words that may be no circuit, and hands on if they are one
pub record Checked (m order rank : List ℕ) (answer : Bool) : Type 0 where
  pub told : answer ≡ not (not_circuit m)
  pub sorted : answer ≡ true → Sorted m order rank
