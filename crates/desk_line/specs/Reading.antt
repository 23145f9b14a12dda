-- What is asked where words of a line are read into a table: places for them, and a beginning that a line of the longest frame has. Assumes nothing.
use Rattle.std.specs.Prelude.{ℕ, ◌+◌, ◌*◌, ◌≤◌, ◌≡◌, List, ◌++◌, length, take}

-- the n words from a place on are these, and those before it are as they were
pub record Stored (before : List ℕ) (at n : ℕ) (words after : List ℕ) : Type 0 where
  pub front : take (at + n) after ≡ take at before ++ words

pub record Readable (table : List ℕ) (at after n : ℕ) : Type 0 where
  pub places : at + n ≤ length table
  pub near : after + 8 * n ≤ 65544

-- a row, with its new cells
pub record RowReadable (table : List ℕ) (at after old new : ℕ) : Type 0 where
  pub places : at + (old + new) ≤ length table
  pub near : after + 8 * old ≤ 65544

-- a single-row circuit is given one row, a dual-row circuit two
pub record OneOrTwo (rows : ℕ) : Type 0 where
  pub some : 1 ≤ rows
  pub few : rows ≤ 2

pub record RowsReadable (table : List ℕ) (old new first step rows : ℕ) : Type 0 where
  pub kind : OneOrTwo rows
  pub places : 2 * (old + new) ≤ length table
  pub near : first + step + 8 * old ≤ 65544
