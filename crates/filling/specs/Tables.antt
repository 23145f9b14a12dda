-- How wide the tables are. Assumes nothing.
use Rattle.std.specs.Prelude.{ℕ, List}
use Rattle.layout.specs.Words.{row_kind}

-- how many rows a circuit reads: the current one, or the next one too
abbrev pub rows_read : List ℕ → ℕ
rows_read m = row_kind m

-- how many words an auxiliary value or a challenge has
abbrev pub element_words : ℕ
element_words = 3
