-- Path counts in memory: what the inner call that counts asks and answers. Assumes nothing.
use Rattle.std.specs.Prelude.{ℕ, ◌+◌, ◌<◌, ◌≤◌, min, ◌≡◌, false, List, length, set, take, None, Option, Some}
use Rattle.layout.specs.Lists.{count}
use Rattle.layout.specs.Words.{used}
use Rattle.layout.specs.NotCircuit.{not_circuit, bad_id}
use Rattle.circuit.specs.Rank.{at, Sorted}
use Rattle.walking.specs.Paths.{paths}

-- one above the bound of path counts: more isn't told apart
abbrev pub over : ℕ
over = 4294967296

-- a circuit with its nodes in order, ids to count from, and room for a count of each node
pub record Countable (m order rank roots counts : List ℕ) : Type 0 where
  pub valid : not_circuit m ≡ false
  pub sorted : Sorted m order rank
  pub order_room : 4096 ≤ length order
  pub ids : bad_id m roots ≡ false
  pub room : 4096 ≤ length counts

-- of each node, the paths from the roots to it, or one above the bound if there are more
pub record PathCounts (m roots counts : List ℕ) : Type 0 where
  pub told : (i : ℕ) → i < used m → at counts i ≡ min over (paths m roots i)

-- each of the first k roots once
pub record Seeded (n : ℕ) (roots counts : List ℕ) (k : ℕ) : Type 0 where
  pub told : (i : ℕ) → i < n → at counts i ≡ min over (count i (take k roots))

pub record Seedable (n : ℕ) (roots counts : List ℕ) : Type 0 where
  pub none : (i : ℕ) → i < n → at counts i ≡ 0
  pub room : n ≤ length counts
  pub below : (k : ℕ) → k < length roots → at roots k < n

-- c more for node i
abbrev pub added : List ℕ → ℕ → ℕ → List ℕ
added counts i c = set counts i (min over (at counts i + c))

-- c more for both operands, twice if they are one node
abbrev pub gave : Option (ℕ × ℕ) → List ℕ → ℕ → List ℕ
gave None counts c = counts
gave (Some (l, r)) counts c = added (added counts l c) r c

-- a node of a circuit, its count within what is told apart
pub record Giving (m counts : List ℕ) (i : ℕ) : Type 0 where
  pub valid : not_circuit m ≡ false
  pub here : i < used m
  pub room : 4096 ≤ length counts
  pub small : at counts i ≤ over
