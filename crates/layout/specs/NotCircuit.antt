-- Document 01, "Bounds": when words are no circuit (1), and the bounds that requested values share with it (3, 4, 5). Assumes nothing.
use Rattle.std.specs.Prelude.{ℕ, zero, suc, Bool, true, false, ◌&&◌, ◌||◌, not, List, length, ltb, leb, eqb}
use Rattle.arithmetic.specs.declared.Triple.{Triple}
use Rattle.arithmetic.specs.Base.{p}
use Rattle.arithmetic.specs.Extension.{unlifts}
use Rattle.layout.specs.declared.node.Position.{Position}
use Rattle.layout.specs.declared.node.Expression.{Expression}
use Rattle.layout.specs.declared.node.Expression.TheVariants.{Base, Extension, Challenge, Operation, Input}
use Rattle.layout.specs.Lists.{up_to, any}
use Rattle.layout.specs.Words.{row_kind, used, limit, word, expression_at, is_next, column}

-- 3: an input of the other row kind: one of the next row, where the circuit isn't dual-row
unfoldable pub bad_row : List ℕ → Position → Bool
bad_row m q = is_next q && not (eqb (row_kind m) 2)

-- 4: a column or challenge over 65,535
abbrev pub bad_index : ℕ → Bool
bad_index k = ltb 65535 k

-- 5: a word at or above p
abbrev pub bad_word : ℕ → Bool
bad_word w = leb p w

-- a triple with such a word
unfoldable pub bad_words : Triple → Bool
bad_words x = bad_word x.c0 || (bad_word x.c1 || bad_word x.c2)

-- 1: constant word at or above p, extension constant that unlifts, index over the bound, operand not below used, input of the other row kind
unfoldable pub bad_expression : List ℕ → Expression → Bool
bad_expression m (Base w) = bad_word w
bad_expression m (Extension x) = bad_words x || unlifts x
bad_expression m (Challenge k) = bad_index k
bad_expression m (Operation o l r) = leb (used m) l || leb (used m) r
bad_expression m (Input q) = bad_index (column q) || bad_row m q

-- unknown kind or mark, or one of these
unfoldable pub bad_node : List ℕ → ℕ → Bool
bad_node m i = ltb 8 (word m i 0) || (ltb 1 (word m i 4) || bad_expression m (expression_at m i))

-- of an operation, whether either operand passes
abbrev pub either_operand : (ℕ → Bool) → Expression → Bool
either_operand test (Base w) = false
either_operand test (Extension x) = false
either_operand test (Challenge k) = false
either_operand test (Operation o l r) = test l || test r
either_operand test (Input q) = false

-- a path from node i goes on for so many levels
unfoldable pub goes_on : List ℕ → ℕ → ℕ → Bool
goes_on m zero i = true
goes_on m (suc levels) i = either_operand (goes_on m levels) (expression_at m i)

-- a cycle: a path of as many levels as there are nodes meets one of them twice
unfoldable pub cyclic : List ℕ → Bool
cyclic m = any (goes_on m (used m)) (up_to (used m))

-- no words for the row kind and the used count, unknown row kind, used count over the lent places or 4,096
unfoldable pub bad_header : List ℕ → Bool
bad_header m = ltb (length m) 2 || (not (eqb (row_kind m) 1 || eqb (row_kind m) 2) || ltb (limit m) (used m))

-- one of these. The nodes are looked at only where the header is good
unfoldable pub not_circuit : List ℕ → Bool
not_circuit m =
    let nodes = any (bad_node m) (up_to (used m)) || cyclic m in
    bad_header m || nodes

-- 2: an id not below the used count
unfoldable pub bad_id : List ℕ → List ℕ → Bool
bad_id m ids = any (leb (used m)) ids
