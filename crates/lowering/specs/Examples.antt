-- Worked examples of lowering, among them each error that a porter makes. Assumes nothing.
use Rattle.std.specs.Prelude.{ℕ, ◌-◌, List, [], ◌∷◌, ◌++◌, map, take, drop, replicate, T}
use Rattle.arithmetic.specs.Base.{p}
use Rattle.arithmetic.specs.Extension.{triple}
use Rattle.layout.specs.declared.node.Position.{Position}
use Rattle.layout.specs.declared.node.Position.TheVariants.{Main, Aux, NextMain, NextAux}
use Rattle.layout.specs.declared.node.Op.TheVariants.{Multiply}
use Rattle.layout.specs.declared.node.Expression.TheVariants.{Base, Extension, Challenge, Operation, Input}
use Rattle.layout.specs.Lists.{agree}
use Rattle.layout.specs.Words.{used, offset}
use Rattle.layout.specs.Outcomes.{Outcome}
use Rattle.layout.specs.Samples.{sample, loosen}
use Rattle.lowering.specs.Lowering.{Lowering, M, candidates, best}
use Rattle.lowering.specs.Calls.{lower_call}
use Rattle.lowering.specs.Computing.{lower_computes}

-- a circuit and roots, with lists of so many places
unfoldable pub lending : List ℕ → List ℕ → ℕ → Lowering
lending m roots room = record { circuit = m; roots = roots; main = replicate room 9; aux = replicate room 9 }

-- the number, the two counts, the used count and the roots afterwards, and the two lists
unfoldable pub shown : Outcome (ℕ × ℕ) Lowering → List ℕ
shown o = (o.number ∷ o.values.0 ∷ o.values.1 ∷ used o.lent.circuit ∷ o.lent.roots) ++ o.lent.main ++ o.lent.aux

-- x, x², x⁴
unfoldable pub x⁴ : ℕ → List ℕ
x⁴ free = sample 1 free (Input (Main 0) ∷ Operation Multiply 0 0 ∷ Operation Multiply 1 1 ∷ [])

-- x, x², x⁴ and an input of the next row, which no root reads
unfoldable pub next_row : Position → List ℕ
next_row q = sample 2 6 (Input (Main 0) ∷ Operation Multiply 0 0 ∷ Operation Multiply 1 1 ∷ Input q ∷ [])

-- x, x², x³ = x·x², x⁶
unfoldable pub x⁶ : List ℕ
x⁶ = sample 1 12 (Input (Main 0) ∷ Operation Multiply 0 0 ∷ Operation Multiply 0 1 ∷ Operation Multiply 2 2 ∷ [])

-- x, a, x², a², x²·a²
unfoldable pub x²a² : List ℕ
x²a² = sample 1 9 (Input (Main 0) ∷ Input (Aux 0) ∷ Operation Multiply 0 0 ∷ Operation Multiply 1 1 ∷ Operation Multiply 2 3 ∷ [])

-- what is worked out, and what document 01 says
unfoldable pub table : List (List ℕ × List ℕ)
table =
    -- 3·M free places, here 6, and M places in either list, here 2, are enough; one less is not. List places beyond the answer aren't written
    (shown (lower_call 2 1 0 (lending (x⁴ 6) (2 ∷ []) 2)), 0 ∷ 1 ∷ 0 ∷ 7 ∷ 2 ∷ 6 ∷ 9 ∷ 9 ∷ 9 ∷ [])
    ∷ (shown (lower_call 2 1 0 (lending (x⁴ 5) (2 ∷ []) 2)), 6 ∷ 0 ∷ 0 ∷ 3 ∷ 2 ∷ 9 ∷ 9 ∷ 9 ∷ 9 ∷ [])
    ∷ ((lower_call 2 1 0 (lending (x⁴ 6) (2 ∷ []) 1)).number ∷ M (x⁴ 6) (2 ∷ []) ∷ [], 13 ∷ 2 ∷ [])
    -- the order of the tests: 1, 8, 2; no roots, or all within target, is accepted; then 10, 9
    ∷ ((lower_call 1 0 0 (lending [] (9 ∷ []) 0)).number ∷ (lower_call 1 0 0 (lending (x⁴ 0) (9 ∷ []) 0)).number ∷ (lower_call 2 0 0 (lending (x⁴ 0) (9 ∷ []) 0)).number ∷ [], 1 ∷ 8 ∷ 2 ∷ [])
    ∷ (shown (lower_call 4 0 0 (lending (x⁴ 0) (2 ∷ []) 0)) ++ shown (lower_call 2 0 0 (lending (x⁴ 0) [] 0)), 0 ∷ 0 ∷ 0 ∷ 3 ∷ 2 ∷ 0 ∷ 0 ∷ 0 ∷ 3 ∷ [])
    ∷ ((lower_call 2 0 0 (lending (loosen 1 (x⁴ 0)) (2 ∷ []) 0)).number ∷ (lower_call 2 0 0 (lending (loosen 2 (x⁴ 0)) (2 ∷ []) 0)).number ∷ (lower_call 2 0 0 (lending (x⁴ 0) (2 ∷ []) 0)).number ∷ [], 10 ∷ 10 ∷ 9 ∷ [])
    -- COLUMNS: any used node, below a root or not; inputs of both rows; a count + M over 65,536
    ∷ (
      (lower_call 2 1 0 (lending (sample 1 6 (Input (Main 0) ∷ Operation Multiply 0 0 ∷ Operation Multiply 1 1 ∷ Input (Aux 0) ∷ [])) (2 ∷ []) 2)).number
          ∷ (lower_call 2 1 0 (lending (sample 2 6 (Input (Main 0) ∷ Operation Multiply 0 0 ∷ Operation Multiply 1 1 ∷ Base 9 ∷ Extension (triple 9 9 9) ∷ Challenge 9 ∷ [])) (2 ∷ []) 2)).number
          ∷ [],
      9 ∷ 0 ∷ [],
    )
    ∷ (map (λ main. (lower_call 2 main 9 (lending (next_row (NextMain 5)) (2 ∷ []) 2)).number) (4 ∷ 5 ∷ 6 ∷ []) ++ map (λ aux. (lower_call 2 9 aux (lending (next_row (NextAux 5)) (2 ∷ []) 2)).number) (4 ∷ 5 ∷ 6 ∷ []), 9 ∷ 9 ∷ 0 ∷ 9 ∷ 9 ∷ 0 ∷ [])
    -- where nothing has to be lowered, no column is looked at
    ∷ ((lower_call 4 0 0 (lending (next_row (NextMain 5)) (2 ∷ []) 2)).number ∷ [], 0 ∷ [])
    ∷ (map (λ main. (lower_call 2 main 0 (lending (x⁴ 6) (2 ∷ []) 2)).number) (65534 ∷ 65535 ∷ []) ++ map (λ aux. (lower_call 2 1 aux (lending (x⁴ 6) (2 ∷ []) 2)).number) (65534 ∷ 65535 ∷ []), 0 ∷ 9 ∷ 0 ∷ 9 ∷ [])
    -- occurrences are counted from each high node, by paths: x² is a root too, and x³ is chosen, as often below x⁶ and of higher degree
    ∷ (best (candidates 3 x⁶ (1 ∷ 3 ∷ [])) ∷ shown (lower_call 3 1 0 (lending x⁶ (1 ∷ 3 ∷ []) 4)), 2 ∷ 0 ∷ 1 ∷ 0 ∷ 8 ∷ 1 ∷ 3 ∷ 7 ∷ 9 ∷ 9 ∷ 9 ∷ 9 ∷ 9 ∷ 9 ∷ 9 ∷ [])
    -- nested high nodes count too: of (x²·y²)·y² and its left factor, both high, y² has 2 + 1 occurrences and x² 1 + 1
    ∷ (
      best (candidates 2 (sample 1 0 (Input (Main 0) ∷ Input (Main 1) ∷ Operation Multiply 0 0 ∷ Operation Multiply 1 1 ∷ Operation Multiply 2 3 ∷ Operation Multiply 4 3 ∷ [])) (5 ∷ [])) ∷ [],
      3 ∷ [],
    )
    -- as many occurrences and as high a degree: the least id
    ∷ (best (candidates 2 x²a² (4 ∷ [])) ∷ [], 2 ∷ [])
    -- main columns are numbered by the main list alone, auxiliary ones by the auxiliary list: here main 1, then auxiliary 1
    ∷ (shown (lower_call 2 1 1 (lending x²a² (4 ∷ []) 3)), 0 ∷ 1 ∷ 1 ∷ 12 ∷ 4 ∷ 8 ∷ 9 ∷ 9 ∷ 11 ∷ 9 ∷ 9 ∷ [])
    ∷ (take 6 (drop (offset 5) (lower_call 2 1 1 (lending x²a² (4 ∷ []) 3)).lent.circuit) ++ take 6 (drop (offset 9) (lower_call 2 1 1 (lending x²a² (4 ∷ []) 3)).lent.circuit), 5 ∷ 1 ∷ 0 ∷ 0 ∷ 1 ∷ 0 ∷ 6 ∷ 1 ∷ 0 ∷ 0 ∷ 1 ∷ 0 ∷ [])
    -- a root that is chosen names the new input afterwards: x³ is a root and is chosen
    ∷ ((lower_call 3 1 0 (lending x⁶ (2 ∷ 3 ∷ []) 4)).lent.roots, 4 ∷ 3 ∷ [])
    -- every operand of a registered node naming the chosen one's id names the new input; a loose one keeps its operands. Here 3 = x²·x is loose
    ∷ (
      take 12 (drop (offset 2) (lower_call 2 1 0 (lending (loosen 3 (sample 1 6 (Input (Main 0) ∷ Operation Multiply 0 0 ∷ Operation Multiply 1 1 ∷ Operation Multiply 1 0 ∷ []))) (2 ∷ []) 2)).lent.circuit),
      4 ∷ 4 ∷ 4 ∷ 0 ∷ 1 ∷ 0 ∷ 4 ∷ 1 ∷ 0 ∷ 0 ∷ 0 ∷ 0 ∷ [],
    )
    -- the chosen one is loose, and its constraint is (new input - chosen)
    ∷ (
      drop (offset 1) (lower_call 2 1 0 (lending (x⁴ 6) (2 ∷ []) 2)).lent.circuit,
      (4 ∷ 0 ∷ 0 ∷ 0 ∷ 0 ∷ 0 ∷ []) ++ (4 ∷ 3 ∷ 3 ∷ 0 ∷ 1 ∷ 0 ∷ []) ++ (5 ∷ 1 ∷ 0 ∷ 0 ∷ 1 ∷ 0 ∷ []) ++ (0 ∷ (p - 1) ∷ 0 ∷ 0 ∷ 1 ∷ 0 ∷ [])
          ++ (4 ∷ 4 ∷ 1 ∷ 0 ∷ 1 ∷ 0 ∷ []) ++ (3 ∷ 3 ∷ 5 ∷ 0 ∷ 1 ∷ 0 ∷ []) ++ replicate 12 0,
    )
    ∷ []

pub examples : T (agree table)
unfolding lower_computes lending shown x⁴ next_row x⁶ x²a² table
examples = tt
