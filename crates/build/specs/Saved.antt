-- What is saved of the free places before a call that may make several nodes, and put back where there is no room for them. Assumes nothing.
use Rattle.std.specs.Prelude.{ℕ, ◌+◌, ◌<◌, ◌≤◌, ◌≡◌, ◌⊎◌, ◌≢◌, false, List, length, get_or}
use Rattle.layout.specs.Words.{used, offset}
use Rattle.layout.specs.NotCircuit.{not_circuit}
use Rattle.classes.specs.Numbers.{Sized}

-- the words of the free places, as far as there are words and room for them
pub record Saved (m saved : List ℕ) : Type 0 where
  pub each : (j : ℕ) → j < length saved → offset (used m) + j < length m → get_or saved j 0 ≡ get_or m (offset (used m) + j) 0

-- the places that were taken since there were u nodes are lent, and saved
pub record Restorable (m saved : List ℕ) (u : ℕ) : Type 0 where
  pub less : u ≤ used m
  pub lent : offset (used m) ≤ length m
  pub kept : offset (used m) ≤ offset u + length saved

-- the used count is u again, and the places that were taken since have the words that were saved
pub record Restored (m saved : List ℕ) (u : ℕ) (m' : List ℕ) : Type 0 where
  pub count : used m' ≡ u
  pub back : (j : ℕ) → offset u + j < offset (used m) → get_or m' (offset u + j) 0 ≡ get_or saved j 0
  pub others : (j : ℕ) → j ≢ 1 → ((j < offset u) ⊎ (offset (used m) ≤ j)) → get_or m' j 0 ≡ get_or m j 0

-- a circuit, and room for its tables
pub record Classable (m num t least : List ℕ) : Type 0 where
  pub circuit : not_circuit m ≡ false
  pub sized : Sized num t
  pub leasts : 4097 ≤ length least
