-- Worked examples of what is a circuit, and of the calls of this layer. Assumes nothing.
use Rattle.std.specs.Prelude.{ℕ, ◌-◌, ◌≡◌, refl, List, [], ◌∷◌, ◌++◌, map, set, replicate, T, ltb, eqb}
use Rattle.arithmetic.specs.Base.{p}
use Rattle.arithmetic.specs.Extension.{triple}
use Rattle.layout.specs.declared.node.RowKind.TheVariants.{Single, Dual}
use Rattle.layout.specs.declared.node.Position.TheVariants.{Main, Aux, NextMain, NextAux}
use Rattle.layout.specs.declared.node.Op.TheVariants.{Add, Multiply}
use Rattle.layout.specs.declared.node.Expression.{Expression}
use Rattle.layout.specs.declared.node.Expression.TheVariants.{Base, Extension, Challenge, Operation, Input}
use Rattle.layout.specs.Lists.{up_to, keep, distinct, each, written, count, same_words, insert, agree, bit}
use Rattle.layout.specs.Words.{row_kind, used, limit, word, decode, is_main, is_next, column, encode, constant, constant_is}
use Rattle.layout.specs.Tree.{tree, same}
use Rattle.layout.specs.NotCircuit.{not_circuit}
use Rattle.layout.specs.Lifted.{lifted_is}
use Rattle.layout.specs.Calls.{start_call, read_call, used_call, free_call}
use Rattle.layout.specs.Samples.{sample, damage, loosen}
use Rattle.layout.specs.Computing.{circuit_computes}

-- what compares the rows of all tables of examples
pub comparing :
    map (λ (ws : List ℕ). bit (same_words (1 ∷ 2 ∷ []) ws)) ((1 ∷ 2 ∷ []) ∷ (1 ∷ 3 ∷ []) ∷ (0 ∷ 2 ∷ []) ∷ (1 ∷ []) ∷ (1 ∷ 2 ∷ 3 ∷ []) ∷ []) ≡ (1 ∷ 0 ∷ 0 ∷ 0 ∷ 0 ∷ [])
unfolding circuit_computes
comparing = refl

pub agreeing :
    (bit (agree ((1 ∷ [], 1 ∷ []) ∷ [])) ∷ bit (agree ((1 ∷ [], 1 ∷ []) ∷ (2 ∷ [], 3 ∷ []) ∷ [])) ∷ bit (agree ((2 ∷ [], 3 ∷ []) ∷ (1 ∷ [], 1 ∷ []) ∷ [])) ∷ []) ≡ (1 ∷ 0 ∷ 0 ∷ [])
unfolding circuit_computes
agreeing = refl

-- one of these nodes alone is a circuit, or not
unfoldable pub alone : ℕ → Expression → ℕ
alone kind e = bit (not_circuit (sample kind 0 (e ∷ [])))

-- x, y, x + y
unfoldable pub three : List ℕ
three = sample 1 1 (Input (Main 0) ∷ Input (Main 1) ∷ Operation Add 0 1 ∷ [])

-- what is worked out, and what document 01 says
unfoldable pub table : List (List ℕ × List ℕ)
table =
    -- the words on lists
    (up_to 3 ++ keep (ltb 1) (3 ∷ 1 ∷ 2 ∷ []) ++ distinct eqb (1 ∷ 2 ∷ 1 ∷ []), 0 ∷ 1 ∷ 2 ∷ 3 ∷ 2 ∷ 2 ∷ 1 ∷ [])
    ∷ (count 1 (1 ∷ 2 ∷ 1 ∷ []) ∷ count 3 (1 ∷ 2 ∷ []) ∷ written (1 ∷ 2 ∷ []) (9 ∷ 9 ∷ 9 ∷ []), 2 ∷ 0 ∷ 1 ∷ 2 ∷ 9 ∷ [])
    ∷ (insert 2 (1 ∷ 3 ∷ []) ++ insert 3 (1 ∷ 3 ∷ []) ++ insert 4 (1 ∷ 3 ∷ []), 1 ∷ 2 ∷ 3 ∷ 1 ∷ 3 ∷ 1 ∷ 3 ∷ 4 ∷ [])
    -- the words of a circuit: row kind, used count, then six a place; of an expression, its kind and three
    ∷ (three, (1 ∷ 3 ∷ []) ++ (5 ∷ 0 ∷ 0 ∷ 0 ∷ 1 ∷ 0 ∷ []) ++ (5 ∷ 1 ∷ 0 ∷ 0 ∷ 1 ∷ 0 ∷ []) ++ (3 ∷ 0 ∷ 1 ∷ 0 ∷ 1 ∷ 0 ∷ []) ++ replicate 6 0)
    ∷ (row_kind [] ∷ used [] ∷ word [] 0 0 ∷ [], 0 ∷ 0 ∷ 0 ∷ [])
    ∷ (encode (Base 7) ++ encode (Extension (triple 7 8 9)) ++ encode (Challenge 7), 0 ∷ 7 ∷ 0 ∷ 0 ∷ 1 ∷ 7 ∷ 8 ∷ 9 ∷ 2 ∷ 7 ∷ 0 ∷ 0 ∷ [])
    ∷ (encode (Operation Add 7 8) ++ encode (Operation Multiply 7 8), 3 ∷ 7 ∷ 8 ∷ 0 ∷ 4 ∷ 7 ∷ 8 ∷ 0 ∷ [])
    ∷ (
      encode (Input (Main 7)) ++ encode (Input (Aux 7)) ++ encode (Input (NextMain 7)) ++ encode (Input (NextAux 7)),
      5 ∷ 7 ∷ 0 ∷ 0 ∷ 6 ∷ 7 ∷ 0 ∷ 0 ∷ 7 ∷ 7 ∷ 0 ∷ 0 ∷ 8 ∷ 7 ∷ 0 ∷ 0 ∷ [],
    )
    ∷ (
      each (λ ws kind. ws ++ encode (decode kind 7 8 9)) [] (up_to 9),
      (0 ∷ 7 ∷ 0 ∷ 0 ∷ 1 ∷ 7 ∷ 8 ∷ 9 ∷ 2 ∷ 7 ∷ 0 ∷ 0 ∷ 3 ∷ 7 ∷ 8 ∷ 0 ∷ 4 ∷ 7 ∷ 8 ∷ 0 ∷ [])
          ++ (5 ∷ 7 ∷ 0 ∷ 0 ∷ 6 ∷ 7 ∷ 0 ∷ 0 ∷ 7 ∷ 7 ∷ 0 ∷ 0 ∷ 8 ∷ 7 ∷ 0 ∷ 0 ∷ []),
    )
    -- main or auxiliary, current or next row, the column
    ∷ (
      each (λ ws q. ws ++ (bit (is_main q) ∷ bit (is_next q) ∷ column q ∷ [])) [] (Main 7 ∷ Aux 7 ∷ NextMain 7 ∷ NextAux 7 ∷ []),
      1 ∷ 0 ∷ 7 ∷ 0 ∷ 0 ∷ 7 ∷ 1 ∷ 1 ∷ 7 ∷ 0 ∷ 1 ∷ 7 ∷ [],
    )
    -- an extension constant that unlifts becomes a base constant; the tests for a constant
    ∷ (encode (constant (triple 5 0 0)) ++ encode (constant (triple 5 0 6)), 0 ∷ 5 ∷ 0 ∷ 0 ∷ 1 ∷ 5 ∷ 0 ∷ 6 ∷ [])
    ∷ (map (λ e. bit (constant_is 1 e)) (Base 1 ∷ Base 2 ∷ Extension (triple 1 0 0) ∷ Extension (triple 1 0 1) ∷ Challenge 1 ∷ Operation Add 1 1 ∷ Input (Main 1) ∷ []), 1 ∷ 0 ∷ 0 ∷ 0 ∷ 0 ∷ 0 ∷ 0 ∷ [])
    -- a branch for lifted constants could say yes of words that are NOT_CIRCUIT alone
    ∷ (map (λ e. bit (lifted_is 1 e)) (Base 1 ∷ Extension (triple 1 0 0) ∷ Extension (triple 2 0 0) ∷ Extension (triple 1 0 1) ∷ Challenge 1 ∷ Operation Add 1 1 ∷ Input (Main 1) ∷ []), 0 ∷ 1 ∷ 0 ∷ 0 ∷ 0 ∷ 0 ∷ 0 ∷ [])
    -- constant word at or above p, extension constant that unlifts, index over the bound
    ∷ (map (alone 1) (Base (p - 1) ∷ Base p ∷ []), 0 ∷ 1 ∷ [])
    ∷ (map (alone 1) (Extension (triple 0 0 1) ∷ Extension (triple 0 1 0) ∷ Extension (triple 1 0 0) ∷ Extension (triple p 1 0) ∷ Extension (triple 0 p 0) ∷ Extension (triple 0 1 p) ∷ []), 0 ∷ 0 ∷ 1 ∷ 1 ∷ 1 ∷ 1 ∷ [])
    ∷ (map (alone 1) (Challenge 65535 ∷ Challenge 65536 ∷ Input (Main 65535) ∷ Input (Main 65536) ∷ Input (Aux 65536) ∷ []), 0 ∷ 1 ∷ 0 ∷ 1 ∷ 1 ∷ [])
    -- input of the other row kind; unknown row kind
    ∷ (map (alone 1) (Input (NextMain 0) ∷ Input (NextAux 0) ∷ []), 1 ∷ 1 ∷ [])
    ∷ (map (alone 2) (Input (Main 0) ∷ Input (Aux 0) ∷ Input (NextMain 0) ∷ Input (NextAux 0) ∷ []), 0 ∷ 0 ∷ 0 ∷ 0 ∷ [])
    ∷ (alone 0 (Base 0) ∷ alone 3 (Base 0) ∷ [], 1 ∷ 1 ∷ [])
    -- unknown kind or mark; operand not below used; a cycle of one and of two
    ∷ (bit (not_circuit three) ∷ bit (not_circuit (damage 0 0 8 three)) ∷ bit (not_circuit (damage 0 0 9 three)) ∷ [], 0 ∷ 1 ∷ 1 ∷ [])
    ∷ (bit (not_circuit (damage 0 0 8 (sample 2 0 (Input (Main 0) ∷ [])))) ∷ bit (not_circuit (damage 0 0 9 (sample 2 0 (Input (Main 0) ∷ [])))) ∷ [], 0 ∷ 1 ∷ [])
    ∷ (bit (not_circuit (loosen 2 three)) ∷ bit (not_circuit (damage 2 4 2 three)) ∷ [], 0 ∷ 1 ∷ [])
    ∷ (bit (not_circuit (damage 2 1 1 three)) ∷ bit (not_circuit (damage 2 1 3 three)) ∷ bit (not_circuit (damage 2 2 3 three)) ∷ [], 0 ∷ 1 ∷ 1 ∷ [])
    ∷ (bit (not_circuit (damage 2 1 2 three)) ∷ bit (not_circuit (damage 0 0 3 (damage 0 1 1 (damage 0 2 1 (damage 1 0 4 (damage 1 1 0 three)))))) ∷ [], 1 ∷ 1 ∷ [])
    -- a redirected operand isn't smaller than its parent, and that is no cycle
    ∷ (bit (not_circuit (damage 0 0 3 (damage 0 1 1 (damage 0 2 1 (damage 2 0 5 three))))) ∷ [], 0 ∷ [])
    -- used count over the lent places; too few words; words left over
    ∷ (bit (not_circuit (set three 1 4)) ∷ bit (not_circuit (set three 1 5)) ∷ bit (not_circuit (1 ∷ 0 ∷ [])) ∷ bit (not_circuit (1 ∷ [])) ∷ bit (not_circuit []) ∷ bit (not_circuit (three ++ (7 ∷ 7 ∷ []))) ∷ [], 0 ∷ 1 ∷ 0 ∷ 1 ∷ 1 ∷ 0 ∷ [])
    -- the lent places, at most 4,096
    ∷ (limit (replicate 24577 0) ∷ limit (replicate 24578 0) ∷ limit (replicate 24584 0) ∷ limit (1 ∷ []) ∷ [], 4095 ∷ 4096 ∷ 4096 ∷ 0 ∷ [])
    -- equality is by structure: same operation with equal operands in the same order
    ∷ (
      (let m = sample 1 0 (Input (Main 0) ∷ Input (Main 1) ∷ Operation Add 0 1 ∷ Operation Add 0 1 ∷ Operation Add 1 0 ∷ Operation Multiply 0 1 ∷ Operation Add 2 3 ∷ Operation Add 3 2 ∷ Operation Add 0 0 ∷ []) in
          map (λ i. bit (same (tree m 2) (tree m i))) (2 ∷ 3 ∷ 4 ∷ 5 ∷ 0 ∷ 6 ∷ 8 ∷ []) ++ (bit (same (tree m 6) (tree m 7)) ∷ bit (same (tree m 0) (tree m 2)) ∷ bit (same (tree m 0) (tree m 1)) ∷ [])),
      1 ∷ 1 ∷ 0 ∷ 0 ∷ 0 ∷ 0 ∷ 0 ∷ 1 ∷ 0 ∷ 0 ∷ [],
    )
    -- start: the row kind and the used count are written, and nothing else
    ∷ ((start_call (9 ∷ 9 ∷ 9 ∷ []) Dual).lent, 2 ∷ 0 ∷ 9 ∷ [])
    ∷ ((start_call (9 ∷ 9 ∷ []) Single).lent, 1 ∷ 0 ∷ [])
    ∷ ((start_call (9 ∷ []) Single).number ∷ (start_call (9 ∷ []) Single).lent, 1 ∷ 9 ∷ [])
    -- read a node, the used count, places free
    ∷ ((read_call three 2).number ∷ bit (read_call three 2).values.registered ∷ encode (read_call three 2).values.expression, 0 ∷ 1 ∷ 3 ∷ 0 ∷ 1 ∷ 0 ∷ [])
    ∷ ((read_call three 3).number ∷ bit (read_call (loosen 2 three) 2).values.registered ∷ (read_call [] 0).number ∷ [], 2 ∷ 0 ∷ 1 ∷ [])
    ∷ ((read_call (damage 2 5 7 three) 2).values.references ∷ [], 7 ∷ [])
    ∷ ((read_call three 3).values.references ∷ bit (read_call three 3).values.registered ∷ encode (read_call three 3).values.expression, 0 ∷ 0 ∷ 0 ∷ 0 ∷ 0 ∷ 0 ∷ [])
    ∷ ((used_call []).values ∷ (free_call []).values ∷ (free_call []).number ∷ [], 0 ∷ 0 ∷ 1 ∷ [])
    ∷ ((used_call three).values ∷ (free_call three).values ∷ (free_call (sample 1 0 [])).values ∷ (used_call []).number ∷ [], 3 ∷ 1 ∷ 0 ∷ 1 ∷ [])
    ∷ []

pub examples : T (agree table)
unfolding circuit_computes alone three table
examples = tt
