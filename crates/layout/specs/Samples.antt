-- How the worked examples write circuits. Assumes nothing.
use Rattle.std.specs.Prelude.{ℕ, ◌+◌, ◌*◌, List, ◌∷◌, length, set, replicate}
use Rattle.layout.specs.declared.node.Expression.{Expression}
use Rattle.layout.specs.Lists.{each}
use Rattle.layout.specs.Words.{made, offset}

-- a circuit of this row kind with these nodes, all registered, and so many free places
unfoldable pub sample : ℕ → ℕ → List Expression → List ℕ
sample kind free es = each made (kind ∷ 0 ∷ replicate (6 * (length es + free)) 0) es

-- word k of node i overwritten
unfoldable pub damage : ℕ → ℕ → ℕ → List ℕ → List ℕ
damage i k w m = set m (offset i + k) w

-- node i made loose
unfoldable pub loosen : ℕ → List ℕ → List ℕ
loosen i m = damage i 4 0 m
