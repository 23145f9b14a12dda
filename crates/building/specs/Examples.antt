-- Worked examples of building. Assumes nothing.
use Rattle.std.specs.Prelude.{ℕ, ◌-◌, List, [], ◌∷◌, ◌++◌, map, take, drop, T}
use Rattle.arithmetic.specs.Base.{p}
use Rattle.arithmetic.specs.Extension.{triple}
use Rattle.layout.specs.declared.node.Position.TheVariants.{Main, Aux, NextMain}
use Rattle.layout.specs.declared.node.Op.TheVariants.{Add, Multiply}
use Rattle.layout.specs.declared.node.Expression.TheVariants.{Base, Extension, Operation, Input}
use Rattle.layout.specs.Lists.{agree}
use Rattle.layout.specs.Words.{used, offset}
use Rattle.layout.specs.Outcomes.{Outcome}
use Rattle.layout.specs.Samples.{sample, loosen}
use Rattle.building.specs.Calls.{input_call, challenge_call, base_call, zero_call, one_call, minus_one_call, extension_call, operation_call, subtract_call, negate_call, sum_call}
use Rattle.building.specs.Computing.{build_computes}

-- the number, the id and the used count afterwards
unfoldable pub shown : Outcome ℕ (List ℕ) → List ℕ
shown o = o.number ∷ o.values ∷ used o.lent ∷ []

-- x, y, 0, 1, x + y
unfoldable pub five : ℕ → List ℕ
five free = sample 1 free (Input (Main 0) ∷ Input (Main 1) ∷ Base 0 ∷ Base 1 ∷ Operation Add 0 1 ∷ [])

-- x, y, loose x + y, registered (x + y) + x: no call of ours loosens a node of degree 1
unfoldable pub damaged : ℕ → List ℕ
damaged free = loosen 2 (sample 1 free (Input (Main 0) ∷ Input (Main 1) ∷ Operation Add 0 1 ∷ Operation Add 2 0 ∷ []))

-- 0, 0, 1, 1: no call of ours makes an equal leaf twice
unfoldable pub twins : List ℕ
twins = sample 1 0 (Base 0 ∷ Base 0 ∷ Base 1 ∷ Base 1 ∷ [])

-- what is worked out, and what document 01 says
unfoldable pub table : List (List ℕ × List ℕ)
table =
    -- a leaf equal to a registered one is that one; else it is made
    (shown (input_call (five 1) (Main 1)), 0 ∷ 1 ∷ 5 ∷ [])
    ∷ (shown (input_call (five 1) (Aux 1)), 0 ∷ 5 ∷ 6 ∷ [])
    ∷ (shown (zero_call (five 0)) ++ shown (one_call (five 0)) ++ shown (minus_one_call (five 1)), 0 ∷ 2 ∷ 5 ∷ 0 ∷ 3 ∷ 5 ∷ 0 ∷ 5 ∷ 6 ∷ [])
    -- an extension constant that unlifts becomes a base constant
    ∷ (shown (extension_call (five 0) (triple 1 0 0)) ++ shown (extension_call (five 1) (triple 1 0 1)), 0 ∷ 3 ∷ 5 ∷ 0 ∷ 5 ∷ 6 ∷ [])
    -- add: right zero gives left; left zero gives right. Multiply: right one gives left; left one gives right; right zero, then left zero
    ∷ (shown (operation_call (five 0) Add 1 2) ++ shown (operation_call (five 0) Add 2 1), 0 ∷ 1 ∷ 5 ∷ 0 ∷ 1 ∷ 5 ∷ [])
    ∷ (map (λ r. (operation_call (five 0) Multiply 4 r).values) (3 ∷ 2 ∷ []) ++ map (λ l. (operation_call (five 0) Multiply l 4).values) (3 ∷ 2 ∷ []), 4 ∷ 2 ∷ 4 ∷ 2 ∷ [])
    ∷ (map (λ r. (operation_call (five 0) Multiply 2 r).values) (2 ∷ 3 ∷ []) ++ ((operation_call (five 0) Multiply 3 2).values ∷ []), 2 ∷ 2 ∷ 2 ∷ [])
    -- in that order, which can be seen where two leaves are equal
    ∷ ((operation_call twins Add 0 1).values ∷ (operation_call twins Multiply 2 3).values ∷ (operation_call twins Multiply 0 1).values ∷ [], 0 ∷ 2 ∷ 1 ∷ [])
    -- two constants fold to a constant leaf; their own leaves stay
    ∷ (shown (operation_call (five 1) Add 3 3), 0 ∷ 5 ∷ 6 ∷ [])
    ∷ (take 6 (drop (offset 5) (operation_call (five 1) Add 3 3).lent), 0 ∷ 2 ∷ 0 ∷ 0 ∷ 1 ∷ 0 ∷ [])
    ∷ (take 4 (drop (offset 2) (operation_call (sample 1 1 (Base 5 ∷ Base 7 ∷ [])) Add 0 1).lent), 0 ∷ 12 ∷ 0 ∷ 0 ∷ [])
    ∷ (take 4 (drop (offset 2) (operation_call (sample 1 1 (Base 5 ∷ Extension (triple 0 1 2) ∷ [])) Multiply 1 0).lent), 1 ∷ 0 ∷ 5 ∷ 10 ∷ [])
    -- one constant alone does not
    ∷ (take 4 (drop (offset 2) (operation_call (sample 1 1 (Input (Main 0) ∷ Base 7 ∷ [])) Multiply 0 1).lent), 4 ∷ 0 ∷ 1 ∷ 0 ∷ [])
    ∷ (take 4 (drop (offset 2) (operation_call (sample 1 1 (Input (Main 0) ∷ Base 7 ∷ [])) Multiply 1 0).lent), 4 ∷ 1 ∷ 0 ∷ 0 ∷ [])
    -- (op, right, left) is looked for before (op, left, right), by structure, among the registered, the least id
    ∷ (shown (operation_call (five 0) Add 1 0), 0 ∷ 4 ∷ 5 ∷ [])
    ∷ (shown (operation_call (sample 1 0 (Input (Main 0) ∷ Input (Main 1) ∷ Operation Add 0 1 ∷ Operation Add 1 0 ∷ [])) Add 0 1), 0 ∷ 3 ∷ 4 ∷ [])
    ∷ (shown (operation_call (loosen 4 (five 1)) Add 0 1), 0 ∷ 5 ∷ 6 ∷ [])
    ∷ (shown (operation_call (sample 1 0 (Input (Main 0) ∷ Operation Add 0 0 ∷ Operation Add 0 0 ∷ Operation Multiply 1 0 ∷ [])) Multiply 2 0), 0 ∷ 3 ∷ 4 ∷ [])
    -- negate makes the leaf -1 first, even where nothing else is made; subtract too, -b first
    ∷ (shown (negate_call (five 1) 2) ++ shown (subtract_call (five 1) 0 2), 0 ∷ 2 ∷ 6 ∷ 0 ∷ 0 ∷ 6 ∷ [])
    ∷ (shown (subtract_call (five 3) 0 1), 0 ∷ 7 ∷ 8 ∷ [])
    ∷ (drop (offset 5) (subtract_call (five 3) 0 1).lent, (0 ∷ (p - 1) ∷ 0 ∷ 0 ∷ 1 ∷ 0 ∷ []) ++ (4 ∷ 5 ∷ 1 ∷ 0 ∷ 1 ∷ 0 ∷ []) ++ (3 ∷ 0 ∷ 6 ∷ 0 ∷ 1 ∷ 0 ∷ []))
    -- FULL, exactly: a refused call leaves no word behind
    ∷ (shown (subtract_call (five 2) 0 1) ++ drop (offset 5) (subtract_call (five 2) 0 1).lent, 6 ∷ 0 ∷ 5 ∷ 0 ∷ 0 ∷ 0 ∷ 0 ∷ 0 ∷ 0 ∷ 0 ∷ 0 ∷ 0 ∷ 0 ∷ 0 ∷ 0 ∷ [])
    ∷ ((negate_call (five 1) 0).number ∷ (negate_call (five 0) 2).number ∷ (negate_call (five 2) 0).number ∷ [], 6 ∷ 6 ∷ 0 ∷ [])
    -- sum adds from the left; one id gives that id; a later sum may be found though an earlier one was new
    ∷ (shown (sum_call (five 0) (0 ∷ [])) ++ shown (sum_call (five 0) (0 ∷ 1 ∷ [])) ++ shown (sum_call (five 1) (0 ∷ 1 ∷ 0 ∷ [])), 0 ∷ 0 ∷ 5 ∷ 0 ∷ 4 ∷ 5 ∷ 0 ∷ 5 ∷ 6 ∷ [])
    ∷ (shown (sum_call (damaged 1) (0 ∷ 1 ∷ 0 ∷ [])) ++ shown (sum_call (damaged 0) (0 ∷ 1 ∷ 0 ∷ [])), 0 ∷ 3 ∷ 5 ∷ 6 ∷ 0 ∷ 4 ∷ [])
    ∷ (shown (sum_call (five 1) (3 ∷ 3 ∷ 2 ∷ [])), 0 ∷ 5 ∷ 6 ∷ [])
    ∷ (take 4 (drop (offset 5) (sum_call (five 1) (3 ∷ 3 ∷ 2 ∷ [])).lent), 0 ∷ 2 ∷ 0 ∷ 0 ∷ [])
    ∷ (take 4 (drop (offset 5) (sum_call (five 1) (0 ∷ 1 ∷ 0 ∷ [])).lent), 3 ∷ 4 ∷ 0 ∷ 0 ∷ [])
    -- refusals, the lowest number that applies: EMPTY, BAD_ID, BAD_ROW, BAD_INDEX, BAD_WORD, NOT_CIRCUIT
    ∷ ((sum_call (five 0) []).number ∷ (sum_call (five 0) (5 ∷ [])).number ∷ (operation_call (five 0) Add 0 5).number ∷ (negate_call (five 0) 5).number ∷ [], 7 ∷ 2 ∷ 2 ∷ 2 ∷ [])
    ∷ ((operation_call (five 0) Add 5 0).number ∷ (subtract_call (five 0) 5 0).number ∷ (subtract_call (five 0) 0 5).number ∷ [], 2 ∷ 2 ∷ 2 ∷ [])
    ∷ ((input_call (five 0) (NextMain 65536)).number ∷ (input_call (five 0) (Main 65536)).number ∷ (input_call (five 1) (Main 65535)).number ∷ (input_call (five 0) (Main 65535)).number ∷ [], 3 ∷ 4 ∷ 0 ∷ 6 ∷ [])
    ∷ ((challenge_call (five 0) 65536).number ∷ (challenge_call (five 1) 65535).number ∷ (base_call (five 0) p).number ∷ (base_call (five 1) (p - 1)).number ∷ (extension_call (five 0) (triple 0 p 0)).number ∷ (base_call [] p).number ∷ [], 4 ∷ 0 ∷ 5 ∷ 0 ∷ 5 ∷ 1 ∷ [])
    ∷ []

pub examples : T (agree table)
unfolding build_computes shown five damaged twins table
examples = tt
