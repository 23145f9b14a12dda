-- Worked examples of the program `fill`. Assumes nothing.
use Rattle.std.specs.Prelude.{ℕ, true, List, [], ◌∷◌, ◌++◌, map, length, drop, replicate, T}
use Prim.Native.String.{String}
use Rattle.layout.specs.Lists.{agree, bit}
use Rattle.framing.specs.Texts.{bytes}
use Rattle.desk.specs.Words.{words_at, rows_at, eight, eights}
use Rattle.desk.specs.Desks.{latest, fresh_desk}
use Rattle.desk.specs.Lines.{challenges_told, too_wide}
use Rattle.desk.specs.Program.{desk_call, fill}
use Rattle.desk.specs.Computing.{desk_computes}

-- what the program answers to a text
unfoldable pub answers : String → List ℕ
answers text = fill (bytes text)

-- to a text that follows another
unfoldable pub beyond : String → String → List ℕ
beyond before text = drop (length (answers before)) (fill (bytes before ++ bytes text))

-- document 01's x⁴, with no lower frame, and lowered
unfoldable pub x : String
x = "0001\n01000000\n0600000000\n0600010001\n090002\n"

unfoldable pub x⁴ : String
x⁴ = "0001\n01000000\n0600000000\n0600010001\n090002\n0a000200010000\n"

-- x²·a², a main and an auxiliary column
unfoldable pub x²a² : String
x²a² = "0001\n01000000\n01010000\n0600000000\n0600010001\n0600020003\n090004\n0a000200010001\n"

-- x·x'·x and a·a'·r·a of a dual-row circuit, where x' and a' are of the next row and r is a challenge: the new columns are x·x' and a·a'
unfoldable pub dual : String
dual = "0002\n01000000\n01020000\n01010000\n01030000\n020000\n0600000001\n0600050000\n0600020003\n0600070004\n0600080002\n090006\n090009\n0a000200010001\n"

-- (r·x)⁴, r a challenge: the new column is (r·x)²
unfoldable pub challenged : String
challenged = "0001\n01000000\n020000\n0600000001\n0600020002\n0600030003\n090004\n0a000200010000\n"

unfoldable pub table : List (List ℕ × List ℕ)
table =
    -- words of eight bytes, after so many; a missing byte is 0
    (words_at 2 1 (9 ∷ 0 ∷ 0 ∷ 0 ∷ 0 ∷ 0 ∷ 0 ∷ 1 ∷ 2 ∷ 1 ∷ []), 258 ∷ 72057594037927936 ∷ [])
    -- rows: each has its words, then zeros
    ∷ (rows_at 1 2 1 8 (9 ∷ 0 ∷ 0 ∷ 0 ∷ 0 ∷ 0 ∷ 0 ∷ 0 ∷ 3 ∷ 0 ∷ 0 ∷ 0 ∷ 0 ∷ 0 ∷ 0 ∷ 0 ∷ 4 ∷ []) 2, 3 ∷ 0 ∷ 0 ∷ 4 ∷ 0 ∷ 0 ∷ [])
    -- numbers are big-endian
    ∷ (eight 0x0102_0304_0506_0708 ++ eights (1 ∷ 0xff00_0000_0000_0000 ∷ []), 1 ∷ 2 ∷ 3 ∷ 4 ∷ 5 ∷ 6 ∷ 7 ∷ 8 ∷ 0 ∷ 0 ∷ 0 ∷ 0 ∷ 0 ∷ 0 ∷ 0 ∷ 1 ∷ 255 ∷ 0 ∷ 0 ∷ 0 ∷ 0 ∷ 0 ∷ 0 ∷ 0 ∷ [])
    -- document 01's x⁴: its answers, then x is 3
    ∷ (answers "0001\n01000000\n0600000000\n0600010001\n090002\n0a000200010000\n0c0000000000000003\n", bytes "00\n000000\n000001\n000002\n00\n00000100000006\n000000000000000009\n")
    -- x is 2^32, p - 1, 0
    ∷ (beyond x⁴ "0c0000000100000000\n0cffffffff00000000\n0c0000000000000000\n", bytes "0000000000ffffffff\n000000000000000001\n000000000000000000\n")
    -- too short, too long, an odd number of characters, upper case, another character, no cells; the next line is answered
    ∷ (beyond x⁴ "0c00000000000003\n0c000000000000000300\n0c00000000000000030\n0c000000000000000A\n0c000000000000000g\n0c\n0c0000000000000003\n", bytes "10\n10\n10\n10\n10\n10\n000000000000000009\n")
    -- a word at p, and above; p - 1 is one
    ∷ (beyond x⁴ "0cffffffff00000001\n0cffffffffffffffff\n0cffffffff00000000\n", bytes "05\n05\n000000000000000001\n")
    -- characters that open neither: upper case, one alone, a blank line, 0d, 1c
    ∷ (beyond x⁴ "0C0000000000000003\n0\n\n0d\n1c0000000000000003\n1b\n", bytes "10\n10\n10\n10\n10\n10\n")
    -- a row before a lower frame is accepted, and after one is refused
    ∷ (answers "0001\n01000000\n0600000000\n0600010001\n090002\n0c0000000000000003\n0a000100010000\n0c0000000000000003\n0a000200010000\n0c0000000000000003\n", bytes "00\n000000\n000001\n000002\n00\n10\n08\n10\n00000100000006\n000000000000000009\n")
    -- a refused lower frame leaves the one before; an accepted one that adds nothing takes its place
    ∷ (beyond x⁴ "0a000100010000\n0c0000000000000003\n0a000200000000\n0c0000000000000003\n0c\n", bytes "08\n000000000000000009\n0000000000\n10\n00\n")
    -- frames built since: neither the lists nor the counts change
    ∷ (beyond x⁴ "0600000002\n080007\n0c0000000000000003\n", bytes "000007\n000008\n000000000000000009\n")
    -- the next lower frame takes its place: nothing to do, so no new column, and two old ones
    ∷ (beyond x⁴ "0a000200020000\n0c0000000000000003\n0c00000000000000030000000000000009\n", bytes "0000000000\n10\n00\n")
    -- before a 00 every line is document 01's
    ∷ (answers "0b\n0c0000000000000003\n0001\n0b\n", bytes "10\n10\n00\n00\n")
    -- both kinds of columns: x, then a; each new main value, then each new auxiliary value
    ∷ (beyond x²a² "0c0000000000000003000000000000000000000000000000010000000000000000\n0c0000000000000002000000000000000100000000000000010000000000000000\n", bytes "000000000000000009000000000000000000000000000000000000000000000001\n000000000000000004000000000000000100000000000000020000000000000001\n")
    -- an auxiliary cell has three words, and each is below p
    ∷ (beyond x²a² "0c0000000000000003\n0c00000000000000030000000000000000\n0c000000000000000300000000000000000000000000000001\n0c00000000000000030000000000000000000000000000000100000000000000000000000000000000\n0c0000000000000003ffffffff0000000100000000000000010000000000000000\n0c00000000000000030000000000000000ffffffff000000010000000000000000\n0c000000000000000300000000000000000000000000000001ffffffff00000001\n", bytes "10\n10\n10\n10\n05\n05\n05\n")
    -- a dual-row circuit is given this row, then the next
    ∷ (beyond dual "0c00000000000000020000000000000000000000000000000100000000000000000000000000000005000000000000000000000000000000000000000000000001\n0c00000000000000050000000000000000000000000000000000000000000000010000000000000002000000000000000000000000000000010000000000000000\n", bytes "00000000000000000affffffff0000000000000000000000010000000000000000\n00000000000000000affffffff0000000000000000000000010000000000000000\n")
    -- x·x' and a·a' tell the rows' cells apart
    ∷ (beyond dual "0c00000000000000020000000000000003000000000000000000000000000000000000000000000005000000000000000000000000000000070000000000000000\n0c0000000000000002000000000000000300000000000000000000000000000000\n0c0000000000000002000000000000000300000000000000000000000000000000000000000000000500000000000000000000000000000007\n0c0000000000000002000000000000000300000000000000000000000000000000ffffffff00000001000000000000000000000000000000070000000000000000\n", bytes "00000000000000000a000000000000000000000000000000150000000000000000\n10\n10\n05\n")
    -- a challenge that is read and wasn't given; given; another in its place; none again
    ∷ (beyond challenged "0c0000000000000003\n0b000000000000000000000000000000010000000000000000\n0c0000000000000003\n0b000000000000000200000000000000000000000000000000000000000000000100000000000000010000000000000001\n0c0000000000000003\n0b\n0c0000000000000003\n", bytes "0f\n00\n00000000000000000000000000000000000000000000000009\n00\n00000000000000002400000000000000000000000000000000\n00\n0f\n")
    -- a challenge at p: the earlier ones stay. Anything else is no frame
    ∷ (beyond challenged "0b000000000000000200000000000000000000000000000000\n0b00000000000000010000000000000001ffffffff00000001\n0bffffffff0000000100000000000000010000000000000001\n0b0000000000000000000000000000000000000000000000000000000000000000ffffffff000000010000000000000000\n0b00\n0b0000000000000002000000000000000000000000000000000\n0b00000000000000020000000000000000\n0b00000000000000020000000000000000000000000000000A\n0c0000000000000003\n", bytes "00\n05\n05\n05\n10\n10\n10\n10\n00000000000000002400000000000000000000000000000000\n")
    -- a wrong length comes before a challenge that is missing, and that before a word at p
    ∷ (beyond challenged "0c00000000000000030000000000000003\n0cffffffff00000001\n0b000000000000000100000000000000000000000000000000\n0cffffffff00000001\n", bytes "10\n0f\n00\n05\n")
    -- challenges that no expression reads are no matter; they're kept by frames and rows
    ∷ (beyond x⁴ "0b000000000000000100000000000000020000000000000003\n0600000000\n0c0000000000000003\n0b\n0c0000000000000003\n", bytes "00\n000007\n000000000000000009\n00\n000000000000000009\n")
    -- 1,024 columns of either kind, new ones included
    ∷ (map (λ l. bit (too_wide l)) (latest true 1024 1024 0 0 ∷ latest true 1023 1000 1 24 ∷ latest true 1024 0 1 0 ∷ latest true 0 1024 0 1 ∷ latest true 1025 0 0 0 ∷ latest true 0 0 0 1025 ∷ []), 0 ∷ 0 ∷ 1 ∷ 1 ∷ 1 ∷ 1 ∷ [])
    -- too wide, whatever follows; before that, no lower frame
    ∷ (beyond x "0c\n0a000204000000\n0c\n0cx\n0c0000000000000003\n", bytes "10\n00000100000006\n0d\n0d\n0d\n")
    -- 48 challenges are one frame, 1,025 are none
    ∷ ((challenges_told fresh_desk (bytes "0b" ++ replicate 2304 48)).bytes, 0 ∷ [])
    ∷ ((challenges_told fresh_desk (bytes "0b" ++ replicate 49200 48)).bytes, 16 ∷ [])
    -- the answer is written as far as there are places
    ∷ ((desk_call fresh_desk (bytes "0001") (replicate 5 7)).written ∷ (desk_call fresh_desk (bytes "0001") (replicate 5 7)).answer, 3 ∷ 48 ∷ 48 ∷ 10 ∷ 7 ∷ 7 ∷ [])
    ∷ []

pub examples : T (agree table)
unfolding desk_computes answers beyond x x⁴ x²a² dual challenged table
examples = tt
