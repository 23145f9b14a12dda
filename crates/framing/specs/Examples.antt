-- Worked examples of digits, of each frame's reader, and of lines on few lent words. Assumes nothing.
use Rattle.std.specs.Prelude.{ℕ, ◌-◌, List, [], ◌∷◌, ◌++◌, map, length, take, drop, replicate, T, ltb}
use Rattle.arithmetic.specs.Base.{p}
use Rattle.layout.specs.declared.node.Position.TheVariants.{Main, Aux}
use Rattle.layout.specs.declared.node.Op.TheVariants.{Multiply}
use Rattle.layout.specs.declared.node.Expression.TheVariants.{Operation, Input}
use Rattle.layout.specs.Lists.{any, agree, bit}
use Rattle.layout.specs.Words.{limit, offset}
use Rattle.layout.specs.Samples.{sample}
use Rattle.framing.specs.Digits.{is_digit, digit, number_at, hexadecimal, two}
use Rattle.framing.specs.States.{State, lent, root_room, fresh}
use Rattle.framing.specs.Frames.{lines, answers, frame_call}
use Rattle.framing.specs.Texts.{bytes, program, after, nodes, texts_compute}

-- all that is kept, after these lines
unfoldable pub kept : State → List (List ℕ) → List ℕ
kept s ls = let t = after s ls in t.circuit ++ t.roots ++ t.main ++ t.aux

-- no row kind yet, and room for a start or not
unfoldable pub empty : List ℕ → State
empty m = lent m (1 ∷ 7 ∷ []) (8 ∷ []) (9 ∷ [])

-- x, and two places for roots
unfoldable pub small : State
small = lent (sample 1 0 (Input (Main 0) ∷ [])) (0 ∷ 7 ∷ 7 ∷ []) (8 ∷ []) (9 ∷ [])

-- x, x², x⁴, which is a root
unfoldable pub x⁴ : State
x⁴ = lent (sample 1 6 (Input (Main 0) ∷ Operation Multiply 0 0 ∷ Operation Multiply 1 1 ∷ [])) (1 ∷ 2 ∷ []) (8 ∷ 8 ∷ []) (9 ∷ 9 ∷ 9 ∷ [])

-- x, a, x², a², x²·a², which is a root
unfoldable pub x²a² : State
x²a² = lent (sample 1 9 (Input (Main 0) ∷ Input (Aux 0) ∷ Operation Multiply 0 0 ∷ Operation Multiply 1 1 ∷ Operation Multiply 2 3 ∷ [])) (1 ∷ 4 ∷ []) (8 ∷ 8 ∷ 8 ∷ []) (9 ∷ 9 ∷ 9 ∷ [])

-- what is worked out, and what document 01 says
unfoldable pub table : List (List ℕ × List ℕ)
table =
    -- lower-case hexadecimal, and what stands beside it among the characters
    (map (λ c. bit (is_digit c)) (bytes "/09:`afgAF"), 0 ∷ 1 ∷ 1 ∷ 0 ∷ 0 ∷ 1 ∷ 1 ∷ 0 ∷ 0 ∷ 0 ∷ [])
    ∷ (map digit (bytes "09af"), 0 ∷ 9 ∷ 10 ∷ 15 ∷ [])
    ∷ (hexadecimal (0 ∷ 15 ∷ 16 ∷ 171 ∷ 255 ∷ []), bytes "000f10abff")
    -- numbers are big-endian
    ∷ (two 0 ++ two 255 ++ two 256 ++ two 65535, 0 ∷ 0 ∷ 0 ∷ 255 ∷ 1 ∷ 0 ∷ 255 ∷ 255 ∷ [])
    ∷ (number_at 2 1 (9 ∷ 1 ∷ 2 ∷ 9 ∷ []) ∷ number_at 8 0 (replicate 8 255) ∷ [], 258 ∷ 18446744073709551615 ∷ [])
    -- rows 00 to 03, a challenge, three words, negate
    ∷ (program "0002\n01000105\n01010106\n01020107\n01030108\n020109\n04000000000000000100000000000000020000000000000103\n080000\n", bytes "00\n000000\n000001\n000002\n000003\n000004\n000005\n000007\n")
    ∷ (
      nodes 0 8 "0002\n01000105\n01010106\n01020107\n01030108\n020109\n04000000000000000100000000000000020000000000000103\n080000\n",
      8 ∷ (5 ∷ 261 ∷ 0 ∷ 0 ∷ 1 ∷ 0 ∷ []) ++ (6 ∷ 262 ∷ 0 ∷ 0 ∷ 1 ∷ 0 ∷ []) ++ (7 ∷ 263 ∷ 0 ∷ 0 ∷ 1 ∷ 0 ∷ []) ++ (8 ∷ 264 ∷ 0 ∷ 0 ∷ 1 ∷ 0 ∷ [])
          ++ (2 ∷ 265 ∷ 0 ∷ 0 ∷ 1 ∷ 0 ∷ []) ++ (1 ∷ 1 ∷ 2 ∷ 259 ∷ 1 ∷ 0 ∷ []) ++ (0 ∷ (p - 1) ∷ 0 ∷ 0 ∷ 1 ∷ 0 ∷ []) ++ (4 ∷ 6 ∷ 0 ∷ 0 ∷ 1 ∷ 0 ∷ []),
    )
    -- both bytes of each id count, and one byte less or more is no frame
    ∷ (answers x⁴ (lines (bytes "0501000000\n0500000100\n0601000000\n0600000100\n0701000000\n0700000100\n080100\n090100\n")), bytes "02\n02\n02\n02\n02\n02\n02\n02\n")
    ∷ (answers small (lines (bytes "0200\n02000000\n03000000000000ff\n0500000000ff\n0600000000ff\n0700000000ff\n0800\n08000000\n0900\n09000000\n0a00020001\n0a00020001000000\n")), bytes "10\n10\n10\n10\n10\n10\n10\n10\n10\n10\n10\n10\n")
    ∷ (answers x⁴ (lines (bytes "080001\n0700010000\n")), bytes "000004\n000006\n")
    -- all others are FRAME until a 00 is accepted
    ∷ (
      program "01000000\n020000\n030000000000000000\n04000000000000000000000000000000000000000000000000\n0500000000\n0600000000\n0700000000\n080000\n090000\n0a000200000000\n",
      bytes "10\n10\n10\n10\n10\n10\n10\n10\n10\n10\n",
    )
    -- an accepted start leaves no roots; a refused one, here without room for the two words, and one of no kind leave all as lent
    ∷ (kept (empty (0 ∷ 5 ∷ 3 ∷ [])) (lines (bytes "0002")), 2 ∷ 0 ∷ 3 ∷ 0 ∷ 7 ∷ 8 ∷ 9 ∷ [])
    ∷ (answers (empty (0 ∷ [])) (lines (bytes "0001")) ++ kept (empty (0 ∷ [])) (lines (bytes "0001")), bytes "01\n" ++ (0 ∷ 1 ∷ 7 ∷ 8 ∷ 9 ∷ []))
    ∷ (answers (empty (0 ∷ 5 ∷ [])) (lines (bytes "0003")) ++ kept (empty (0 ∷ 5 ∷ [])) (lines (bytes "0003")), bytes "10\n" ++ (0 ∷ 5 ∷ 1 ∷ 7 ∷ 8 ∷ 9 ∷ []))
    -- 64 roots, or as many as there are places; one more is NO_ROOM, and an id not below the used count BAD_ID
    ∷ (map (λ n. root_room (replicate n 0)) (0 ∷ 1 ∷ 2 ∷ 65 ∷ 66 ∷ []), 0 ∷ 0 ∷ 1 ∷ 64 ∷ 64 ∷ [])
    ∷ (answers small (lines (bytes "090001\n090000\n090000\n090000\n090001\n")), bytes "02\n00\n00\n0d\n02\n")
    ∷ (drop (offset 1) (kept small (lines (bytes "090000\n01000000\n"))), 1 ∷ 0 ∷ 7 ∷ 8 ∷ 9 ∷ [])
    ∷ (drop (offset 1) (kept small (lines (bytes "090000\n090000\n090000\n"))), 2 ∷ 0 ∷ 0 ∷ 8 ∷ 9 ∷ [])
    -- 512 nodes, and 512 places in each lowering list; 64 roots; all words zero
    ∷ (limit fresh.circuit ∷ length fresh.circuit ∷ root_room fresh.roots ∷ length fresh.roots ∷ length fresh.main ∷ length fresh.aux ∷ [], 512 ∷ 3074 ∷ 64 ∷ 65 ∷ 512 ∷ 512 ∷ [])
    ∷ (map (λ ws. bit (any (ltb 0) ws)) (fresh.circuit ∷ fresh.roots ∷ fresh.main ∷ fresh.aux ∷ []), 0 ∷ 0 ∷ 0 ∷ 0 ∷ [])
    -- each list keeps its own places beyond the answer; target and both counts are two bytes each
    ∷ (drop (offset 9) (kept x⁴ (lines (bytes "0a000200010000\n"))), 1 ∷ 2 ∷ 6 ∷ 8 ∷ 9 ∷ 9 ∷ 9 ∷ [])
    ∷ (answers x⁴ (lines (bytes "0a010200000000\n0a000200000000\n")), bytes "0000000000\n09\n")
    ∷ (take 2 (drop (offset 5) (kept x²a² (lines (bytes "0a000201040203\n")))) ++ take 2 (drop (offset 9) (kept x²a² (lines (bytes "0a000201040203\n")))), 5 ∷ 260 ∷ 6 ∷ 515 ∷ [])
    ∷ (drop (offset 14) (kept x²a² (lines (bytes "0a000201040203\n"))), 1 ∷ 4 ∷ 8 ∷ 8 ∷ 8 ∷ 11 ∷ 9 ∷ 9 ∷ [])
    -- the answer is written as far as there are places
    ∷ ((frame_call small (bytes "090000") (replicate 5 7)).written ∷ (frame_call small (bytes "090000") (replicate 5 7)).answer, 3 ∷ 48 ∷ 48 ∷ 10 ∷ 7 ∷ 7 ∷ [])
    ∷ ((frame_call small (bytes "090000") (replicate 2 7)).written ∷ (frame_call small (bytes "090000") (replicate 2 7)).answer, 3 ∷ 48 ∷ 48 ∷ [])
    ∷ []

pub examples : T (agree table)
unfolding texts_compute frame_call kept empty small x⁴ x²a² table
examples = tt
