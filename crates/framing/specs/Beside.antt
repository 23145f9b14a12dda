-- Beside the starred examples: frames that document 01 doesn't have, each with the sentence of document 01 that it tries. Assumes nothing.
use Rattle.std.specs.Prelude.{ℕ, ◌-◌, List, [], ◌∷◌, T}
use Rattle.arithmetic.specs.Base.{p}
use Rattle.layout.specs.Lists.{agree}
use Rattle.framing.specs.Texts.{bytes, program, roots_after, nodes, degree_after, texts_compute}

-- what is worked out, and what follows from document 01
unfoldable pub beside : List (List ℕ × List ℕ)
beside =
    -- a listed constraint that is an old node with swapped operands: neither new, nor three nodes, nor the new input on the left
    (
      program "0001\n01000000\n0600000000\n0600010001\n090002\n0a000200010000\n0600000000\n0500050007\n0600070007\n090009\n0a000200020000",
      bytes "00\n000000\n000001\n000002\n00\n00000100000006\n000007\n000008\n000009\n00\n00000100000008\n",
    )
    -- occurrences are counted from the high nodes: x² is a root too, and no high node
    ∷ (
      program "0001\n01000000\n0600000000\n0600000001\n0600020002\n090001\n090003\n0a000300020000\n",
      bytes "00\n000000\n000001\n000002\n000003\n00\n00\n00000100000007\n",
    )
    -- as many occurrences: the highest degree
    ∷ (
      program "0001\n01000000\n0600000000\n0600010000\n0600020002\n090003\n0a000300020000\n",
      bytes "00\n000000\n000001\n000002\n000003\n00\n00000100000007\n",
    )
    -- as high a degree: the least id
    ∷ (
      program "0001\n01000000\n01000001\n0600010000\n0600000000\n0500020003\n0600010004\n090004\n090005\n0a000200020000\n",
      bytes "00\n000000\n000001\n000002\n000003\n000004\n000005\n00\n00\n00000200000009000c\n",
    )
    -- a root that is chosen names the new input afterwards: the second lowering finds nothing to do, and no loose root
    ∷ (
      program "0001\n01000000\n0600000000\n0600000001\n090002\n0600020000\n090003\n090001\n0a000300020000\n0a000200060000\n",
      bytes "00\n000000\n000001\n000002\n00\n000003\n00\n00\n00000100000007\n0000000000\n",
    )
    ∷ (roots_after "0001\n01000000\n0600000000\n0600000001\n090002\n0600020000\n090003\n090001\n0a000300020000\n", 4 ∷ 3 ∷ 1 ∷ [])
    -- a loose node keeps its operands: the second lowering chooses 1, which 2 goes on naming
    ∷ (
      nodes 2 1 "0001\n01000000\n0600000000\n0600010000\n0600020002\n090003\n0a000300020000\n0600010001\n090008\n0a000200060000\n",
      12 ∷ 4 ∷ 1 ∷ 0 ∷ 0 ∷ 0 ∷ 0 ∷ [],
    )
    -- a zero constant has degree -1, and so has a product with it; subtracting zero makes -1 first, and gives the left operand
    ∷ (degree_after 0 "0001\n030000000000000000\n", 0 ∷ 1 ∷ 1 ∷ [])
    ∷ (program "0001\n01000000\n030000000000000000\n0700000001\n", bytes "00\n000000\n000001\n000000\n")
    ∷ (nodes 2 1 "0001\n01000000\n030000000000000000\n0700000001\n", 3 ∷ 0 ∷ (p - 1) ∷ 0 ∷ 0 ∷ 1 ∷ 0 ∷ [])
    -- multiply: right one gives left before right zero gives right; 0·0 gives the right one, which is the left one too
    ∷ (program "0001\n01000000\n030000000000000000\n030000000000000001\n0600000001\n0600010000\n0600000002\n0600020000\n0600010002\n", bytes "00\n000000\n000001\n000002\n000001\n000001\n000000\n000000\n000001\n")
    -- an extension constant that unlifts becomes a base constant
    ∷ (nodes 0 1 "0001\n04000000000000000700000000000000000000000000000000\n", 1 ∷ 0 ∷ 7 ∷ 0 ∷ 0 ∷ 1 ∷ 0 ∷ [])
    -- after a lowering a rebuilt chosen node is a new id but equal
    ∷ (program "0001\n01000000\n0600000000\n0600010001\n090002\n0a000200010000\n0600000000\n", bytes "00\n000000\n000001\n000002\n00\n00000100000006\n000007\n")
    -- target 1 refused, 2 accepted; count 1 with main input 0 is accepted, count 0 refused when lowering is needed
    ∷ (program "0001\n01000000\n0600000000\n0600010001\n090002\n0a000100010000\n0a000200000000\n0a000400000000\n0a000200010000\n", bytes "00\n000000\n000001\n000002\n00\n08\n09\n0000000000\n00000100000006\n")
    -- COLUMNS looks at the next row too: x⁶ plus column 5 of the next row, main counts 4, 5 and 6 (request 4)
    ∷ (program "0002\n01000000\n01020005\n0600000000\n0600020000\n0600030003\n0500040001\n090005\n0a000200040000\n0a000200050000\n0a000200060000\n", bytes "00\n000000\n000001\n000002\n000003\n000004\n000005\n00\n09\n09\n00000200000009000c\n")
    -- lowering again what names a loose node: LOOSE
    ∷ (program "0001\n01000000\n0600000000\n0600010001\n090002\n0a000200010000\n090001\n0600010001\n090007\n0a000200020000\n", bytes "00\n000000\n000001\n000002\n00\n00000100000006\n00\n000007\n00\n0a\n")
    -- FRAME: before 00, a second 00, an unknown opcode, too short, too long, upper case, an odd length, a blank line, a row byte over 03
    ∷ (program "01000000\n0003\n0001\n0001\n0b00\n0100\n0100000000\n0A000200010000\n010\n\n01040000\n0100000A\n01020000\n03ffffffff00000001\n0500000000\n", bytes "10\n10\n00\n10\n10\n10\n10\n10\n10\n10\n10\n10\n03\n05\n02\n")
    ∷ []

pub others : T (agree beside)
unfolding texts_compute beside
others = tt
