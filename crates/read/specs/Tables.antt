-- The tables in which the recursions remember each node's answer. Assumes nothing.
use Rattle.std.specs.Prelude.{ℕ, ◌*◌, ◌<◌, ◌≤◌, ◌≡◌, false, List, length, eqb, if◌then◌else◌, None, Option, Some}
use Rattle.layout.specs.declared.node.Op.{Op}
use Rattle.layout.specs.declared.node.Expression.{Expression}
use Rattle.layout.specs.declared.node.Expression.TheVariants.{Base, Extension, Challenge, Operation, Input}
use Rattle.layout.specs.Words.{used, expression_at}
use Rattle.layout.specs.Tree.{Leaf, base_leaf, extension_leaf, challenge_leaf, input_leaf}
use Rattle.layout.specs.NotCircuit.{not_circuit}
use Rattle.circuit.specs.Rank.{at}

-- 2^64 - 1: no answer yet
abbrev pub unknown : ℕ
unknown = 18446744073709551615

-- an operation's answer comes from its operands' answers
abbrev pub operands_of : Expression → Option (Op × ℕ × ℕ)
operands_of (Base w) = None
operands_of (Extension x) = None
operands_of (Challenge k) = None
operands_of (Operation o l r) = Some (o, l, r)
operands_of (Input q) = None

-- unless it is known: w is the first word of node i's entry
unfoldable pub step_at : List ℕ → ℕ → ℕ → Option (Op × ℕ × ℕ)
step_at m i w = if eqb w unknown then operands_of (expression_at m i) else None

-- a circuit, and a rank that falls along operands
pub record Ranked (m rank : List ℕ) : Type 0 where
  pub valid : not_circuit m ≡ false
  pub left_first : (i : ℕ) (o : Op) (l r : ℕ) → i < used m → expression_at m i ≡ Operation o l r → at rank l < at rank i
  pub right_first : (i : ℕ) (o : Op) (l r : ℕ) → i < used m → expression_at m i ≡ Operation o l r → at rank r < at rank i

module _ {A : Type 0} where
  -- what the table starts with: a leaf's own answer, and none for an operation
  abbrev pub leaf_entry : (Leaf → A) → A → Expression → A
  leaf_entry f none (Base w) = f (base_leaf w)
  leaf_entry f none (Extension x) = f (extension_leaf x)
  leaf_entry f none (Challenge k) = f (challenge_leaf k)
  leaf_entry f none (Operation o l r) = none
  leaf_entry f none (Input q) = f (input_leaf q)

  -- the first n entries are these
  pub record Filled (n : ℕ) (entry answer : ℕ → A) : Type 0 where
    pub told : (j : ℕ) → j < n → entry j ≡ answer j

  -- where nothing is left to be worked out, an entry is the answer; `word` is an entry's first word
  pub record Right (word : A → ℕ) (m : List ℕ) (entry answer : ℕ → A) : Type 0 where
    pub told : (j : ℕ) → j < used m → step_at m j (word (entry j)) ≡ None → entry j ≡ answer j

  -- after node i was asked for, and r answered: its entry is known now, and each that was known is
  pub record Told (word : A → ℕ) (m : List ℕ) (entry entry' answer : ℕ → A) (i : ℕ) (r : A) : Type 0 where
    pub answered : r ≡ answer i
    pub here : entry' i ≡ answer i
    pub stays : (j : ℕ) → entry j ≡ answer j → entry' j ≡ answer j
    pub right : Right word m entry' answer

-- a circuit, and a table with k words an entry and room for each node
pub record Roomy (k : ℕ) (m table : List ℕ) : Type 0 where
  pub valid : not_circuit m ≡ false
  pub room : k * used m ≤ length table

-- node i is asked for in such a table
pub record Asked (k : ℕ) (m rank table : List ℕ) (i : ℕ) : Type 0 where
  pub ranked : Ranked m rank
  pub room : k * used m ≤ length table
  pub here : i < used m

-- every node is
pub record AllAsked (k : ℕ) (m rank table : List ℕ) : Type 0 where
  pub ranked : Ranked m rank
  pub room : k * used m ≤ length table

-- the first word of an entry that is one word
abbrev pub itself : ℕ → ℕ
itself w = w
