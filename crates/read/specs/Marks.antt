-- Marks of classes: a class has its mark where a node of it has a path count. Assumes nothing.
use Rattle.std.specs.Prelude.{ℕ, zero, suc, ◌+◌, ◌<◌, ◌≤◌, ◌≡◌, Bool, false, ◌&&◌, List, length, ltb, eqb}
use Rattle.layout.specs.Lists.{any, up_to, bit}
use Rattle.layout.specs.Words.{used}
use Rattle.layout.specs.NotCircuit.{not_circuit}
use Rattle.circuit.specs.Rank.{at}

-- node j has a path count, and class k
abbrev pub class_at : List ℕ → List ℕ → ℕ → ℕ → Bool
class_at counts class k j = ltb 0 (at counts j) && eqb k (at class j)

-- class k has its mark where one of the first n nodes is such
pub record Marked (counts class seen : List ℕ) (n : ℕ) : Type 0 where
  pub told : (k : ℕ) → at seen k ≡ bit (any (class_at counts class k) (up_to n))

-- a circuit, with a path count and a class for each node, and no mark yet
pub record Markable (m counts class seen : List ℕ) : Type 0 where
  pub valid : not_circuit m ≡ false
  pub counts_room : used m ≤ length counts
  pub class_room : used m ≤ length class
  pub seen_room : used m ≤ length seen
  pub classes : (i : ℕ) → i < used m → at class i < used m
  pub none : (k : ℕ) → at seen k ≡ 0

-- how many of the first n have their mark
unfoldable pub marks : List ℕ → ℕ → ℕ
marks seen zero = 0
marks seen (suc n) = marks seen n + bit (eqb (at seen n) 1)
