-- Reference counts in memory: what the inner calls that test, write and gather them ask and answer. Assumes nothing.
use Rattle.std.specs.Prelude.{ℕ, ◌+◌, ◌<◌, ◌≤◌, ◌≡◌, false, List, [], length, set, take, ltb, if◌then◌else◌}
use Rattle.layout.specs.Lists.{up_to, each, insert}
use Rattle.layout.specs.Words.{used, offset, node_at}
use Rattle.layout.specs.NotCircuit.{not_circuit}
use Rattle.circuit.specs.Rank.{at}

-- a circuit, and a count for each node
pub record Counting (m counts : List ℕ) : Type 0 where
  pub valid : not_circuit m ≡ false
  pub room : 4096 ≤ length counts

-- a count that isn't 0 is written to its node
abbrev pub put : List ℕ → ℕ → ℕ → List ℕ
put m i c = if ltb 0 c then set m (offset i + 5) c else m

-- to each node that has one
unfoldable pub put_all : List ℕ → List ℕ → List ℕ
put_all m counts = each (λ x i. put x i (at counts i)) m (up_to (used m))

-- where v belongs among the first n words: what stands before is less, and what stands there isn't
pub record Placed (words : List ℕ) (n v place : ℕ) : Type 0 where
  pub within : place ≤ n
  pub less : (j : ℕ) → j < place → at words j < v
  pub here : place < n → v ≤ at words place

-- the first words, and how many they are
pub record Words (words list : List ℕ) (n : ℕ) : Type 0 where
  pub first : take n words ≡ list
  pub long : length list ≡ n

-- the reference counts of the first n nodes that have a path count, rising, each once
unfoldable pub gathered : List ℕ → List ℕ → ℕ → List ℕ
gathered m counts n = each (λ xs j. if ltb 0 (at counts j) then insert (node_at m j).references xs else xs) [] (up_to n)

pub record Gathering (m counts words : List ℕ) : Type 0 where
  pub valid : not_circuit m ≡ false
  pub room : 4096 ≤ length counts
  pub words_room : 4096 ≤ length words
