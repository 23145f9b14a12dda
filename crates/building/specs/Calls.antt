-- The public calls of building: the order of the tests, the id that is answered, and the circuit afterwards. Assumes nothing.
use Rattle.std.specs.Prelude.{ℕ, Bool, List, [], ◌∷◌, ◌++◌, length, eqb}
use Rattle.arithmetic.specs.declared.Triple.{Triple}
use Rattle.arithmetic.specs.Base.{minus_one}
use Rattle.layout.specs.declared.node.Position.{Position}
use Rattle.layout.specs.declared.node.Op.{Op}
use Rattle.layout.specs.declared.node.Expression.TheVariants.{Base, Challenge, Input}
use Rattle.layout.specs.Words.{column, constant}
use Rattle.layout.specs.NotCircuit.{bad_row, bad_index, bad_word, bad_words, not_circuit, bad_id}
use Rattle.layout.specs.Outcomes.{Outcome, outcome}
use Rattle.building.specs.Building.{Built, find_or_make, operate, negated, subtracted, summed, full}

-- the lowest number that applies: 1, the call's own tests in rising order, 6
unfoldable pub building : List ℕ → List (ℕ × Bool) → Built → Outcome ℕ (List ℕ)
building m tests b = outcome (((1, not_circuit m) ∷ tests) ++ ((6, full m b) ∷ [])) b.id b.circuit 0 m

-- an input
unfoldable pub input_call : List ℕ → Position → Outcome ℕ (List ℕ)
input_call m q = building m ((3, bad_row m q) ∷ (4, bad_index (column q)) ∷ []) (find_or_make m (Input q))

-- a challenge index
unfoldable pub challenge_call : List ℕ → ℕ → Outcome ℕ (List ℕ)
challenge_call m k = building m ((4, bad_index k) ∷ []) (find_or_make m (Challenge k))

-- a base constant
unfoldable pub base_call : List ℕ → ℕ → Outcome ℕ (List ℕ)
base_call m w = building m ((5, bad_word w) ∷ []) (find_or_make m (Base w))

-- the constants 0, 1 and -1
unfoldable pub zero_call : List ℕ → Outcome ℕ (List ℕ)
zero_call m = base_call m 0

unfoldable pub one_call : List ℕ → Outcome ℕ (List ℕ)
one_call m = base_call m 1

unfoldable pub minus_one_call : List ℕ → Outcome ℕ (List ℕ)
minus_one_call m = base_call m minus_one

-- an extension constant
unfoldable pub extension_call : List ℕ → Triple → Outcome ℕ (List ℕ)
extension_call m x = building m ((5, bad_words x) ∷ []) (find_or_make m (constant x))

-- add and multiply
unfoldable pub operation_call : List ℕ → Op → ℕ → ℕ → Outcome ℕ (List ℕ)
operation_call m o l r = building m ((2, bad_id m (l ∷ r ∷ [])) ∷ []) (operate m o l r)

-- a - b
unfoldable pub subtract_call : List ℕ → ℕ → ℕ → Outcome ℕ (List ℕ)
subtract_call m a b = building m ((2, bad_id m (a ∷ b ∷ [])) ∷ []) (subtracted m a b)

-- -a
unfoldable pub negate_call : List ℕ → ℕ → Outcome ℕ (List ℕ)
negate_call m a = building m ((2, bad_id m (a ∷ [])) ∷ []) (negated m a)

-- 7, the sum of no ids, makes no node, so it never meets 6
unfoldable pub sum_call : List ℕ → List ℕ → Outcome ℕ (List ℕ)
sum_call m ids = building m ((2, bad_id m ids) ∷ (7, eqb (length ids) 0) ∷ []) (summed m ids)
