-- Of each class number, the least id that has it, among all nodes or among the registered. Assumes nothing.
use Rattle.std.specs.Prelude.{ℕ, zero, suc, ◌+◌, ◌<◌, ◌≤◌, ◌≡◌, Bool, true, ◌&&◌, List, length, set, eqb, if◌then◌else◌, Option, None, Some}
use Rattle.layout.specs.Lists.{up_to, first}
use Rattle.circuit.specs.Rank.{at}

-- a word that stands for an id, or for none: i + 1 for i, 0 for none
abbrev pub slot : ℕ → Option ℕ
slot zero = None
slot (suc i) = Some i

-- the least of the first n ids that passes and has the number v
unfoldable pub least_with : (ℕ → Bool) → List ℕ → ℕ → ℕ → Option ℕ
least_with p num n v = first (λ i. p i && eqb (at num i) v) (up_to n)

-- any id passes
abbrev pub any_id : ℕ → Bool
any_id i = true

-- the least id of each number
pub record Firsts (p : ℕ → Bool) (num least : List ℕ) (n : ℕ) : Type 0 where
  pub each : (v : ℕ) → slot (at least v) ≡ least_with p num n v

-- i is the least id of number v, unless it has one
unfoldable pub noted : List ℕ → ℕ → ℕ → List ℕ
noted least v i = if eqb (at least v) 0 then set least v (i + 1) else least

-- numbers that have a place in the list of least ids
pub record Inside (num least : List ℕ) (n : ℕ) : Type 0 where
  pub few : n ≤ 4096
  pub numbers : n ≤ length num
  pub inside : (i : ℕ) → i < n → at num i < length least

-- each number became the least id that has it
pub record Lowered (num class : List ℕ) (n : ℕ) : Type 0 where
  pub each : (i : ℕ) → i < n → Some (at class i) ≡ least_with any_id num n (at num i)
