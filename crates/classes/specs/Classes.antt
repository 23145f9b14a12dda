-- Document 01, "Equality is by structure": a node's class is the least id of equal structure. Assumes nothing.
use Rattle.std.specs.Prelude.{ℕ, Bool, false, List, [], ◌∷◌, Option, None, Some}
use Rattle.layout.specs.Lists.{up_to, first}
use Rattle.layout.specs.Words.{used}
use Rattle.layout.specs.Tree.{tree, same}
use Rattle.layout.specs.Outcomes.{Outcome}
use Rattle.layout.specs.Calls.{reading}

-- what was found, else i itself
abbrev pub or_itself : ℕ → Option ℕ → ℕ
or_itself i None = i
or_itself i (Some j) = j

-- the least id of equal structure
unfoldable pub class_of : List ℕ → ℕ → ℕ
class_of m i = or_itself i (first (λ j. same (tree m j) (tree m i)) (up_to (used m)))

-- same kind, same constant or index, same operation with equal operands in the same order
unfoldable pub equal_call : List ℕ → ℕ → ℕ → Outcome Bool (Unit {0})
equal_call m i j = reading m (i ∷ j ∷ []) [] (same (tree m i) (tree m j)) false
