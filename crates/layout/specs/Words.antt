-- Document 01, "The circuit", as lent words m:
--   word 0 the row kind, 1 single, 2 dual; word 1 the used count; then six words a place, and what is left over is no place.
--   A place: kind, three words, mark (1 registered, 0 loose), reference count. The kinds and their words:
--   0 base constant: word. 1 extension constant: c0 c1 c2. 2 challenge: index. 3 add, 4 multiply: left id, right id.
--   Input, 5 main, 6 auxiliary, 7 next main, 8 next auxiliary: column.
--   A word that its kind doesn't name is ignored where it is read, and written as 0. Assumes nothing.
use Rattle.std.specs.Prelude.{ℕ, ◌+◌, ◌-◌, ◌*◌, ◌/◌, min, Bool, true, false, List, [], ◌∷◌, ◌++◌, length, get_or, set, take, drop, eqb, if◌then◌else◌, Option, None, Some}
use Rattle.arithmetic.specs.declared.Triple.{Triple}
use Rattle.arithmetic.specs.Extension.{triple, lift, unlifts, plus, times}
use Rattle.layout.specs.declared.node.RowKind.{RowKind}
use Rattle.layout.specs.declared.node.RowKind.TheVariants.{Single, Dual}
use Rattle.layout.specs.declared.node.Position.{Position}
use Rattle.layout.specs.declared.node.Position.TheVariants.{Main, Aux, NextMain, NextAux}
use Rattle.layout.specs.declared.node.Op.{Op}
use Rattle.layout.specs.declared.node.Op.TheVariants.{Add, Multiply}
use Rattle.layout.specs.declared.node.Expression.{Expression}
use Rattle.layout.specs.declared.node.Expression.TheVariants.{Base, Extension, Challenge, Operation, Input}
use Rattle.layout.specs.declared.node.Node.{Node}

-- single-row or dual-row, fixed at its start
abbrev pub row_word : RowKind → ℕ
row_word Single = 1
row_word Dual = 2

abbrev pub row_kind : List ℕ → ℕ
row_kind m = get_or m 0 0

-- how many nodes; ids count from 0 in order of creation
abbrev pub used : List ℕ → ℕ
used m = get_or m 1 0

-- nodes: the lent places, at most 4,096 used
unfoldable pub limit : List ℕ → ℕ
limit m = min ((length m - 2) / 6) 4096

-- where the words of node i begin
abbrev pub offset : ℕ → ℕ
offset i = 2 + 6 * i

-- word k of node i
abbrev pub word : List ℕ → ℕ → ℕ → ℕ
word m i k = get_or m (offset i + k) 0

-- what the words say; of no other kind than 0 to 8, as NOT_CIRCUIT sees to
unfoldable pub decode : ℕ → ℕ → ℕ → ℕ → Expression
decode kind a b c =
    if eqb kind 0 then Base a
    else if eqb kind 1 then Extension (triple a b c)
    else if eqb kind 2 then Challenge a
    else if eqb kind 3 then Operation Add a b
    else if eqb kind 4 then Operation Multiply a b
    else if eqb kind 5 then Input (Main a)
    else if eqb kind 6 then Input (Aux a)
    else if eqb kind 7 then Input (NextMain a)
    else Input (NextAux a)

-- node i
unfoldable pub node_at : List ℕ → ℕ → Node
node_at m i =
    record {
      expression = decode (word m i 0) (word m i 1) (word m i 2) (word m i 3);
      registered = eqb (word m i 4) 1;
      references = word m i 5;
    }

-- what node i is
abbrev pub expression_at : List ℕ → ℕ → Expression
expression_at m i = (node_at m i).expression

-- registered from creation until a lowering substitutes it; then it is loose
abbrev pub registered : List ℕ → ℕ → Bool
registered m i = (node_at m i).registered

-- the kind of an operation
abbrev pub op_kind : Op → ℕ
op_kind Add = 3
op_kind Multiply = 4

-- main or auxiliary
abbrev pub is_main : Position → Bool
is_main (Main c) = true
is_main (Aux c) = false
is_main (NextMain c) = true
is_main (NextAux c) = false

-- current or next row
abbrev pub is_next : Position → Bool
is_next (Main c) = false
is_next (Aux c) = false
is_next (NextMain c) = true
is_next (NextAux c) = true

-- the column of an input
abbrev pub column : Position → ℕ
column (Main c) = c
column (Aux c) = c
column (NextMain c) = c
column (NextAux c) = c

-- the kind of an input
abbrev pub input_kind : Position → ℕ
input_kind (Main c) = 5
input_kind (Aux c) = 6
input_kind (NextMain c) = 7
input_kind (NextAux c) = 8

-- an expression's kind and three words
unfoldable pub encode : Expression → List ℕ
encode (Base w) = 0 ∷ w ∷ 0 ∷ 0 ∷ []
encode (Extension x) = 1 ∷ x.c0 ∷ x.c1 ∷ x.c2 ∷ []
encode (Challenge k) = 2 ∷ k ∷ 0 ∷ 0 ∷ []
encode (Operation o l r) = op_kind o ∷ l ∷ r ∷ 0 ∷ []
encode (Input q) = input_kind q ∷ column q ∷ 0 ∷ 0 ∷ []

-- with one node more, registered and its count 0, in the next place. It may lie beyond the lent words: then FULL refuses the call
unfoldable pub made : List ℕ → Expression → List ℕ
made m e = set (take (offset (used m)) m ++ encode e ++ (1 ∷ 0 ∷ []) ++ drop (offset (used m + 1)) m) 1 (used m + 1)

-- the value of a constant
abbrev pub constant_of : Expression → Option Triple
constant_of (Base w) = Some (lift w)
constant_of (Extension x) = Some x
constant_of (Challenge k) = None
constant_of (Operation o l r) = None
constant_of (Input q) = None

-- an extension constant that unlifts becomes a base constant
unfoldable pub constant : Triple → Expression
constant x = if unlifts x then Base x.c0 else Extension x

-- the tests for 0, 1 and -1: an expression is the base constant w. An extension constant never is: one that unlifts isn't stored (Lifted.antt)
abbrev pub constant_is : ℕ → Expression → Bool
constant_is w (Base v) = eqb v w
constant_is w (Extension x) = false
constant_is w (Challenge k) = false
constant_is w (Operation o l r) = false
constant_is w (Input q) = false

unfoldable pub is_constant : ℕ → List ℕ → ℕ → Bool
is_constant w m i = constant_is w (expression_at m i)

-- add or multiply
abbrev pub apply : Op → Triple → Triple → Triple
apply Add x y = plus x y
apply Multiply x y = times x y
