-- The theorem at two accepted lowerings; in the second the constraint is an old node, found in swapped order. Assumes nothing.
use Prim.Native.Nat.{ℕ}
use mathlib.Core.Path.{◌≡◌, refl}
use mathlib.Core.Bool.{true}
use mathlib.Core.List.{List, [], ◌∷◌}
use lib.ListN.{replicate}
use Rattle.arithmetic.specs.Base.{minus_one}
use Rattle.layout.specs.declared.node.Op.TheVariants.{Multiply}
use Rattle.layout.specs.declared.node.Expression.TheVariants.{Operation}
use Rattle.layout.specs.Words.{node_at}
use Rattle.lowering.specs.Lowering.{Lowering, too_high, lowered}
use Rattle.lowering.specs.Calls.{lower_call, returned}
use Rattle.lowering.specs.Demand.{Demand3}
use Rattle.lowering.specs.Computing.{lower_computes}
use Rattle.lowering.proofs.Theorem.{demand3}

-- x⁴ as (x·x)·(x·x)
pub x⁴ : Lowering
x⁴ =
    record {
      circuit = 1 ∷ 3 ∷ 5 ∷ 0 ∷ 0 ∷ 0 ∷ 1 ∷ 0 ∷ 4 ∷ 0 ∷ 0 ∷ 0 ∷ 1 ∷ 0 ∷ 4 ∷ 1 ∷ 1 ∷ 0 ∷ 1 ∷ 0 ∷ replicate 36 0;
      roots = 2 ∷ [];
      main = 0 ∷ 0 ∷ [];
      aux = 0 ∷ 0 ∷ [];
    }

-- the circuit that it gives, with x·x rebuilt as 7, 8 = 5 + 7 and 9 = 7·7
pub again : Lowering
again =
    record {
      circuit =
          1 ∷ 10 ∷ 5 ∷ 0 ∷ 0 ∷ 0 ∷ 1 ∷ 0
          ∷ 4 ∷ 0 ∷ 0 ∷ 0 ∷ 0 ∷ 0
          ∷ 4 ∷ 3 ∷ 3 ∷ 0 ∷ 1 ∷ 0
          ∷ 5 ∷ 1 ∷ 0 ∷ 0 ∷ 1 ∷ 0
          ∷ 0 ∷ minus_one ∷ 0 ∷ 0 ∷ 1 ∷ 0
          ∷ 4 ∷ 4 ∷ 1 ∷ 0 ∷ 1 ∷ 0
          ∷ 3 ∷ 3 ∷ 5 ∷ 0 ∷ 1 ∷ 0
          ∷ 4 ∷ 0 ∷ 0 ∷ 0 ∷ 1 ∷ 0
          ∷ 3 ∷ 5 ∷ 7 ∷ 0 ∷ 1 ∷ 0
          ∷ 4 ∷ 7 ∷ 7 ∷ 0 ∷ 1 ∷ 0
          ∷ replicate 60 0;
      roots = 2 ∷ 9 ∷ [];
      main = 0 ∷ 0 ∷ 0 ∷ [];
      aux = 0 ∷ 0 ∷ 0 ∷ [];
    }

accepted : (lower_call 2 1 0 x⁴).number ≡ 0
unfolding lower_computes x⁴
accepted = refl

its_constraint : (returned (lower_call 2 1 0 x⁴)).main ≡ 6 ∷ []
unfolding lower_computes x⁴
its_constraint = refl

pub x⁴-holds : Demand3 2 1 0 x⁴.circuit x⁴.roots (returned (lower_call 2 1 0 x⁴))
x⁴-holds = demand3 2 1 0 x⁴ accepted

accepted-again : (lower_call 2 2 0 again).number ≡ 0
unfolding lower_computes again
accepted-again = refl

old_constraint : (returned (lower_call 2 2 0 again)).main ≡ 8 ∷ []
unfolding lower_computes again
old_constraint = refl

pub again-holds : Demand3 2 2 0 again.circuit again.roots (returned (lower_call 2 2 0 again))
again-holds = demand3 2 2 0 again accepted-again

-- a loose node below the root, which LOOSE refuses: 1 = 0·0, 2 = 1·1 loose, root 3 = 2 + 0. Its operands are not redirected, and the root's degree stays 4
held : List ℕ
held =
    1 ∷ 4 ∷ 5 ∷ 0 ∷ 0 ∷ 0 ∷ 1 ∷ 0
    ∷ 4 ∷ 0 ∷ 0 ∷ 0 ∷ 1 ∷ 0
    ∷ 4 ∷ 1 ∷ 1 ∷ 0 ∷ 0 ∷ 0
    ∷ 3 ∷ 2 ∷ 0 ∷ 0 ∷ 1 ∷ 0
    ∷ replicate 60 0

loose_needed : too_high 2 (lowered 2 1 0 held (3 ∷ [])).circuit (lowered 2 1 0 held (3 ∷ [])).roots ≡ true
unfolding lower_computes held
loose_needed = refl

-- a column that a node reads already, which COLUMNS refuses (the count says 0, and x is main column 0): x⁴ is lowered to x·x, and the constraint is x - x·x
taken_needed : ((lowered 2 0 0 x⁴.circuit (2 ∷ [])).main ≡ 5 ∷ []) × ((node_at (lowered 2 0 0 x⁴.circuit (2 ∷ [])).circuit 2).expression ≡ Operation Multiply 0 0)
unfolding lower_computes x⁴
taken_needed = (refl, refl)
