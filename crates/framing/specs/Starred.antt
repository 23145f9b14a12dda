-- Document 01, "Examples": the starred ones in one table, and one statement. Assumes nothing.
use Rattle.std.specs.Prelude.{ℕ, ◌-◌, ◌^◌, List, [], ◌∷◌, ◌++◌, T}
use Rattle.arithmetic.specs.Base.{p, add, multiply}
use Rattle.arithmetic.specs.Extension.{triple, times}
use Rattle.layout.specs.Lists.{agree}
use Rattle.reading.specs.Examples.{words}
use Rattle.framing.specs.Texts.{bytes, program, nodes, degree_after, texts_compute}

-- what is worked out, and what document 01 says
unfoldable pub starred : List (List ℕ × List ℕ)
starred =
    -- (p-1)+1 = 0. (p-1)·(p-1) = 1. 2^32 · 2^32 = 4294967295
    (add (p - 1) 1 ∷ [], 0 ∷ [])
    ∷ (multiply (p - 1) (p - 1) ∷ [], 1 ∷ [])
    ∷ (multiply (2 ^ 32) (2 ^ 32) ∷ [], 4294967295 ∷ [])
    -- X·X² = (p-1, 1, 0). X²·X² = (0, p-1, 1)
    ∷ (words (times (triple 0 1 0) (triple 0 0 1)), (p - 1) ∷ 1 ∷ 0 ∷ [])
    ∷ (words (times (triple 0 0 1) (triple 0 0 1)), 0 ∷ (p - 1) ∷ 1 ∷ [])
    -- (0,1,0) + (5,p-1,0) folds to base constant 5: node 2 of three
    ∷ (
      nodes 2 1 "0001\n04000000000000000000000000000000010000000000000000\n040000000000000005ffffffff000000000000000000000000\n0500000001\n",
      3 ∷ 0 ∷ 5 ∷ 0 ∷ 0 ∷ 1 ∷ 0 ∷ [],
    )
    -- the frame program's input, then the whole output
    ∷ (program "0001\n01000000\n0600000000\n0600010001\n090002\n0a000200010000\n", bytes "00\n000000\n000001\n000002\n00\n00000100000006\n")
    -- the x⁴ input above: of seven nodes, 1 is loose and 2 redirected; new input 3, -1 is 4, -1·x² is 5, constraint 6
    ∷ (
      nodes 1 6 "0001\n01000000\n0600000000\n0600010001\n090002\n0a000200010000\n",
      7 ∷ (4 ∷ 0 ∷ 0 ∷ 0 ∷ 0 ∷ 0 ∷ []) ++ (4 ∷ 3 ∷ 3 ∷ 0 ∷ 1 ∷ 0 ∷ []) ++ (5 ∷ 1 ∷ 0 ∷ 0 ∷ 1 ∷ 0 ∷ [])
          ++ (0 ∷ (p - 1) ∷ 0 ∷ 0 ∷ 1 ∷ 0 ∷ []) ++ (4 ∷ 4 ∷ 1 ∷ 0 ∷ 1 ∷ 0 ∷ []) ++ (3 ∷ 3 ∷ 5 ∷ 0 ∷ 1 ∷ 0 ∷ []),
    )
    -- ((x·x)·x)·x, target 2, counts 1 and 0: nodes 1 then 2 are chosen; main list 7, 10; eleven nodes
    ∷ (
      program "0001\n01000000\n0600000000\n0600010000\n0600020000\n090003\n0a000200010000\n",
      bytes "00\n000000\n000001\n000002\n000003\n00\n00000200000007000a\n",
    )
    ∷ (
      nodes 1 10 "0001\n01000000\n0600000000\n0600010000\n0600020000\n090003\n0a000200010000\n",
      11 ∷ (4 ∷ 0 ∷ 0 ∷ 0 ∷ 0 ∷ 0 ∷ []) ++ (4 ∷ 4 ∷ 0 ∷ 0 ∷ 0 ∷ 0 ∷ []) ++ (4 ∷ 8 ∷ 0 ∷ 0 ∷ 1 ∷ 0 ∷ []) ++ (5 ∷ 1 ∷ 0 ∷ 0 ∷ 1 ∷ 0 ∷ [])
          ++ (0 ∷ (p - 1) ∷ 0 ∷ 0 ∷ 1 ∷ 0 ∷ []) ++ (4 ∷ 5 ∷ 1 ∷ 0 ∷ 1 ∷ 0 ∷ []) ++ (3 ∷ 4 ∷ 6 ∷ 0 ∷ 1 ∷ 0 ∷ [])
          ++ (5 ∷ 2 ∷ 0 ∷ 0 ∷ 1 ∷ 0 ∷ []) ++ (4 ∷ 5 ∷ 2 ∷ 0 ∷ 1 ∷ 0 ∷ []) ++ (3 ∷ 8 ∷ 9 ∷ 0 ∷ 1 ∷ 0 ∷ []),
    )
    -- x²·a², x main 0, a auxiliary 0, made in order x, a, x², a², product, target 2, counts 1 and 1: main list 8, auxiliary list 11
    ∷ (
      program "0001\n01000000\n01010000\n0600000000\n0600010001\n0600020003\n090004\n0a000200010001\n",
      bytes "00\n000000\n000001\n000002\n000003\n000004\n00\n00000100010008000b\n",
    )
    -- a·b then b·a: one node
    ∷ (program "0001\n01000000\n01010000\n0600000001\n0600010000\n", bytes "00\n000000\n000001\n000002\n000002\n")
    -- x² - x² has degree 2
    ∷ (degree_after 4 "0001\n01000000\n0600000000\n0700010001\n", 0 ∷ 0 ∷ 2 ∷ [])
    ∷ []

pub examples : T (agree starred)
unfolding texts_compute starred
examples = tt
