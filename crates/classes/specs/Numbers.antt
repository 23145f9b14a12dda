-- Class numbers: each node has the number of its key, which is its expression over its operands' numbers. Two nodes have one number
-- exactly when they are equal by structure. Assumes nothing.
use Rattle.std.specs.Prelude.{ℕ, ◌+◌, ◌<◌, ◌≤◌, ◌≡◌, false, List, length, set}
use Rattle.layout.specs.declared.node.Expression.{Expression}
use Rattle.layout.specs.declared.node.Expression.TheVariants.{Base, Extension, Challenge, Operation, Input}
use Rattle.layout.specs.Words.{used, offset, expression_at, encode}
use Rattle.layout.specs.NotCircuit.{not_circuit}
use Rattle.circuit.specs.Rank.{at, Sorted}
use Rattle.classes.specs.Table.{count, place, entry, Tabled, Roomy, Interned}

-- an expression over its operands' numbers
abbrev pub over : List ℕ → Expression → Expression
over num (Base w) = Base w
over num (Extension x) = Extension x
over num (Challenge k) = Challenge k
over num (Operation o l r) = Operation o (at num l) (at num r)
over num (Input q) = Input q

unfoldable pub key_of : List ℕ → Expression → List ℕ
key_of num e = encode (over num e)

-- node i has the number of its key
pub record Filed (m num t : List ℕ) (i : ℕ) : Type 0 where
  pub low : 1 ≤ at num i
  pub high : at num i ≤ count t
  pub entered : entry t (at num i) ≡ key_of num (expression_at m i)

-- the nodes f 0, f 1, .., f (n - 1) have the numbers of their keys
pub record Numbered (m : List ℕ) (f : ℕ → ℕ) (n : ℕ) (num t : List ℕ) : Type 0 where
  pub tabled : Tabled t
  pub few : count t ≤ n
  pub filed : (q : ℕ) → q < n → Filed m num t (f q)

-- the nodes in the order of their ids
abbrev pub itself : ℕ → ℕ
itself i = i

-- room for the numbers and the keys of 4,096 nodes
pub record Sized (num t : List ℕ) : Type 0 where
  pub numbers : 4096 ≤ length num
  pub keys : place 4096 + 5 ≤ length t

-- a node that can have its number
pub record Enterable (m num t : List ℕ) (i : ℕ) : Type 0 where
  pub here : offset i + 6 ≤ length m
  pub number : i < length num
  pub roomy : Roomy t

-- node i has got the number of its key
pub record Entered (m num t num' t' : List ℕ) (i : ℕ) : Type 0 where
  pub number : ℕ
  pub put : num' ≡ set num i number
  pub interned : Interned t t' (key_of num (expression_at m i)) number

-- a circuit, its rank, and room
pub record Orderly (m order rank num t : List ℕ) : Type 0 where
  pub circuit : not_circuit m ≡ false
  pub sorted : Sorted m order rank
  pub ids : used m ≤ length order
  pub sized : Sized num t
