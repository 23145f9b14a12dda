-- Words of eight bytes, read from a line and written to an answer: big-endian. Assumes nothing.
use Rattle.std.specs.Prelude.{ℕ, zero, suc, ◌+◌, ◌*◌, ◌/◌, ◌%◌, List, [], ◌∷◌, ◌++◌, replicate}
use Rattle.framing.specs.Digits.{number_at, two}

-- so many words, after so many bytes
unfoldable pub words_at : ℕ → ℕ → List ℕ → List ℕ
words_at zero after bs = []
words_at (suc n) after bs = number_at 8 after bs ∷ words_at n (after + 8) bs

-- a row: so many words, after so many bytes, then zeros in so many new cells
abbrev pub row_at : ℕ → ℕ → ℕ → List ℕ → List ℕ
row_at old new after bs = words_at old after bs ++ replicate new 0

-- so many rows: of the first the words stand after so many bytes, of each next one so many bytes later
unfoldable pub rows_at : ℕ → ℕ → ℕ → ℕ → List ℕ → ℕ → List ℕ
rows_at old new first step bs zero = []
rows_at old new first step bs (suc r) = rows_at old new first step bs r ++ row_at old new (first + r * step) bs

-- a number in four bytes, and in eight
unfoldable pub four : ℕ → List ℕ
four n = two (n / 0x1_0000) ++ two (n % 0x1_0000)

unfoldable pub eight : ℕ → List ℕ
eight n = four (n / 0x1_0000_0000) ++ four (n % 0x1_0000_0000)

-- each in eight bytes
unfoldable pub eights : List ℕ → List ℕ
eights [] = []
eights (n ∷ ns) = eight n ++ eights ns
