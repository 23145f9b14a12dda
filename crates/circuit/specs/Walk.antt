-- The walk that ranks the nodes, inside the check: it finishes each node after its operands. Assumes nothing.
use Rattle.std.specs.Prelude.{ℕ, zero, suc, ◌+◌, ◌<◌, ◌≤◌, ◌≡◌, ◌⊎◌, Bool, true, false, not, List, length, ltb, if◌then◌else◌, None, Option, Some}
use Rattle.layout.specs.declared.node.Op.{Op}
use Rattle.layout.specs.declared.node.Expression.{Expression}
use Rattle.layout.specs.declared.node.Expression.TheVariants.{Base, Extension, Challenge, Operation, Input}
use Rattle.layout.specs.Lists.{up_to, any}
use Rattle.layout.specs.Words.{used, expression_at}
use Rattle.layout.specs.NotCircuit.{bad_header, bad_node, goes_on, cyclic}
use Rattle.circuit.specs.Rank.{at, Sorted}

-- the two operands of an operation: where the walk goes on from a node
abbrev pub step_of : Expression → Option (ℕ × ℕ)
step_of (Base w) = None
step_of (Extension x) = None
step_of (Challenge k) = None
step_of (Operation o l r) = Some (l, r)
step_of (Input q) = None

-- how many of the first i nodes are finished: they have a rank below n
unfoldable pub finished : List ℕ → ℕ → ℕ → ℕ
finished rank n zero = 0
finished rank n (suc i) = finished rank n i + (if ltb (at rank i) n then 1 else 0)

-- no node is finished
unfoldable pub Unfinished : List ℕ → ℕ → Type 0
Unfinished rank n = (i : ℕ) → i < n → at rank i ≡ n

-- a node whose rank is q
pub record Taken (rank : List ℕ) (n q : ℕ) : Type 0 where
  pub id : ℕ
  pub below : id < n
  pub is : at rank id ≡ q

-- `done` nodes are finished: they have the ranks below that, each its own, and each a higher one than its operands
pub record Walking (m rank : List ℕ) (done : ℕ) : Type 0 where
  pub counted : finished rank (used m) (used m) ≡ done
  pub before : (i : ℕ) → i < used m → at rank i < used m → at rank i < done
  pub alone : (i j : ℕ) → i < used m → j < used m → at rank i < used m → at rank i ≡ at rank j → i ≡ j
  pub taken : (q : ℕ) → q < done → Taken rank (used m) q
  pub left_first : (i : ℕ) (o : Op) (l r : ℕ) → i < used m → at rank i < used m → expression_at m i ≡ Operation o l r → at rank l < at rank i
  pub right_first : (i : ℕ) (o : Op) (l r : ℕ) → i < used m → at rank i < used m → expression_at m i ≡ Operation o l r → at rank r < at rank i

-- words whose header and nodes are without fault, and a list with room for each node
pub record Walkable (m rank : List ℕ) : Type 0 where
  pub header : bad_header m ≡ false
  pub good : any (bad_node m) (up_to (used m)) ≡ false
  pub room : 4096 ≤ length rank

pub record Visiting (m rank : List ℕ) (i done : ℕ) : Type 0 where
  pub able : Walkable m rank
  pub here : i < used m
  pub walking : Walking m rank done

-- a test that goes from a node to its operands
abbrev pub Falls : List ℕ → (ℕ → Bool) → Type 0
Falls m t = (i : ℕ) (o : Op) (l r : ℕ) → t i ≡ true → expression_at m i ≡ Operation o l r → (t l ≡ true) × (t r ≡ true)

-- what is finished now, and wasn't before, lies below node i
abbrev pub Below : List ℕ → List ℕ → List ℕ → ℕ → Type 0
Below m rank rank' i = (t : ℕ → Bool) → Falls m t → t i ≡ true → (j : ℕ) → at rank' j < used m → (at rank j < used m) ⊎ (t j ≡ true)

-- k nodes are finished now, node i among them, and the last if it was not
pub record Further (m rank rank' : List ℕ) (i k : ℕ) : Type 0 where
  pub walking : Walking m rank' k
  pub kept : (j : ℕ) → at rank j < used m → at rank' j ≡ at rank j
  pub here : at rank' i < used m
  pub last : (rank' ≡ rank) ⊎ (at rank' i + 1 ≡ k)
  pub below : Below m rank rank' i

-- after a visit of node i: its answer is the number of finished nodes, or none if a path from i goes on for `levels`
pub record Visited (m rank rank' : List ℕ) (i levels : ℕ) (answer : Option ℕ) : Type 0 where
  pub further : (k : ℕ) → answer ≡ Some k → Further m rank rank' i k
  pub goes_on : answer ≡ None → goes_on m levels i ≡ true

-- all nodes are finished
pub record Ranked (m rank : List ℕ) : Type 0 where
  pub walking : Walking m rank (used m)
  pub all : (i : ℕ) → i < used m → at rank i < used m

-- what the whole walk answers, and hands on
pub record Walked (m rank : List ℕ) (answer : Bool) : Type 0 where
  pub told : answer ≡ not (cyclic m)
  pub ranked : answer ≡ true → Ranked m rank

-- ranks below n, each its own
pub record Placing (rank : List ℕ) (n : ℕ) : Type 0 where
  pub all : (i : ℕ) → i < n → at rank i < n
  pub alone : (i j : ℕ) → i < n → j < n → at rank i ≡ at rank j → i ≡ j

-- each of the first n stands at its rank
unfoldable pub Placed : List ℕ → List ℕ → ℕ → Type 0
Placed order rank n = (i : ℕ) → i < n → at order (at rank i) ≡ i

-- the same, with the order
pub record Ordered (m order rank : List ℕ) (answer : Bool) : Type 0 where
  pub told : answer ≡ not (cyclic m)
  pub sorted : answer ≡ true → Sorted m order rank
