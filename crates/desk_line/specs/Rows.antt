-- What is asked where a row is filled, and what the tables hold then. Assumes nothing.
use Rattle.std.specs.Prelude.{ℕ, ◌+◌, ◌*◌, ◌≤◌, ◌≡◌, List, length, take}
use Rattle.layout.specs.Words.{row_kind}
use Rattle.layout.specs.Outcomes.{Outcome}
use Rattle.filling.specs.Tables.{element_words}
use Rattle.desk.specs.declared.Latest.{Latest}
use Rattle.desk_line.specs.Reading.{OneOrTwo}

-- not too wide
pub record Narrow (l : Latest) : Type 0 where
  pub main : l.main_count + l.mains ≤ 1024
  pub aux : l.aux_count + l.auxs ≤ 1024

-- the tables have places for two rows of 1,024 columns of each kind
pub record Places (main aux : List ℕ) : Type 0 where
  pub mains : 2048 ≤ length main
  pub auxs : 6144 ≤ length aux

-- of a circuit that was started
pub record Rowable (m main aux : List ℕ) : Type 0 where
  pub kind : OneOrTwo (row_kind m)
  pub places : Places main aux

-- how many words so many rows have, new cells included
abbrev pub main_words : Latest → ℕ → ℕ
main_words l rows = rows * (l.main_count + l.mains)

abbrev pub aux_words : Latest → ℕ → ℕ
aux_words l rows = rows * (element_words * l.aux_count + element_words * l.auxs)

-- a number, and tables
abbrev pub filled_as : ℕ → List ℕ → List ℕ → Outcome (Unit {0}) (List ℕ × List ℕ)
filled_as n main aux = record { number = n; values = tt; lent = (main, aux) }

-- what a fill of so many words from the front on did
pub record TablesFilled (o : Outcome (Unit {0}) (List ℕ × List ℕ)) (n w v : ℕ) (main aux : List ℕ) : Type 0 where
  pub number : n ≡ o.number
  pub mains : take w main ≡ o.lent.0
  pub auxs : take v aux ≡ o.lent.1
