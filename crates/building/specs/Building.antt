-- Document 01, "Building". A step gives the circuit after it and the id; whether it has room is FULL's matter. Assumes nothing.
use Rattle.std.specs.Prelude.{ℕ, Bool, ◌&&◌, List, [], ◌∷◌, ltb, if◌then◌else◌, Option, None, Some}
use Rattle.arithmetic.specs.declared.Triple.{Triple}
use Rattle.arithmetic.specs.Base.{minus_one}
use Rattle.layout.specs.declared.node.Op.{Op}
use Rattle.layout.specs.declared.node.Op.TheVariants.{Add, Multiply}
use Rattle.layout.specs.declared.node.Expression.{Expression}
use Rattle.layout.specs.declared.node.Expression.TheVariants.{Base, Operation}
use Rattle.layout.specs.Lists.{first, up_to}
use Rattle.layout.specs.Words.{used, limit, expression_at, registered, made, constant_of, constant, is_constant, apply}
use Rattle.layout.specs.Tree.{tree, tree_of, same}

-- a circuit and an id in it
pub record Built : Type 0 where
  pub circuit : List ℕ
  pub id : ℕ

abbrev pub built : List ℕ → ℕ → Built
built m i = record { circuit = m; id = i }

-- a registered node equal to e; if several match, the least id is taken
unfoldable pub find : List ℕ → Expression → Option ℕ
find m e = first (λ i. registered m i && same (tree m i) (tree_of m e)) (up_to (used m))

-- what was found, else b
abbrev pub or_else : Option ℕ → List ℕ → Built → Built
or_else (Some i) m b = built m i
or_else None m b = b

-- that one, else a new node: a leaf equal to a registered one is that one
unfoldable pub find_or_make : List ℕ → Expression → Built
find_or_make m e = or_else (find m e) m (built (made m e) (used m))

-- a registered node equal to (op, right, left), then one equal to (op, left, right), is returned; else (op, left, right) is made
unfoldable pub either_order : List ℕ → Op → ℕ → ℕ → Built
either_order m o l r = or_else (find m (Operation o r l)) m (find_or_make m (Operation o l r))

-- two constants fold to a constant leaf; their own leaves stay
abbrev pub folded_or : Option Triple → Option Triple → List ℕ → Op → ℕ → ℕ → Built
folded_or (Some x) (Some y) m o l r = find_or_make m (constant (apply o x y))
folded_or (Some x) None m o l r = either_order m o l r
folded_or None y m o l r = either_order m o l r

-- what is left after the tests below
unfoldable pub folding : List ℕ → Op → ℕ → ℕ → Built
folding m o l r = folded_or (constant_of (expression_at m l)) (constant_of (expression_at m r)) m o l r

-- add: right zero gives left; left zero gives right. Multiply: right one gives left; left one gives right; right zero gives right; left zero
-- gives left. Tested in that order
unfoldable pub operate : List ℕ → Op → ℕ → ℕ → Built
operate m Add l r =
    if is_constant 0 m r then built m l
    else if is_constant 0 m l then built m r
    else folding m Add l r
operate m Multiply l r =
    if is_constant 1 m r then built m l
    else if is_constant 1 m l then built m r
    else if is_constant 0 m r then built m r
    else if is_constant 0 m l then built m l
    else folding m Multiply l r

-- negate is (-1)·a: it makes the leaf -1 first, even where nothing else is made
unfoldable pub negated : List ℕ → ℕ → Built
negated m a = let b = find_or_make m (Base minus_one) in operate b.circuit Multiply b.id a

-- subtract is a + (-b), -b first
unfoldable pub subtracted : List ℕ → ℕ → ℕ → Built
subtracted m a b = let n = negated m b in operate n.circuit Add a n.id

-- sum adds from the left; one id gives that id
unfoldable pub summed_from : List ℕ → ℕ → List ℕ → Built
summed_from m i [] = built m i
summed_from m i (j ∷ js) = let b = operate m Add i j in summed_from b.circuit b.id js

-- of no ids there is no sum (EMPTY)
unfoldable pub summed : List ℕ → List ℕ → Built
summed m [] = built m 0
summed m (i ∷ is) = summed_from m i is

-- 6: more new nodes needed than free places
unfoldable pub full : List ℕ → Built → Bool
full m b = ltb (limit m) (used b.circuit)
