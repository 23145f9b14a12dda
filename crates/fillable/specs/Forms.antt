-- What the code that reads a listed node's form asks. Assumes nothing.
use Rattle.std.specs.Prelude.{ℕ, ◌<◌, ◌≡◌, false, List}
use Rattle.layout.specs.declared.node.Op.{Op}
use Rattle.layout.specs.declared.node.Expression.{Expression}
use Rattle.layout.specs.declared.node.Expression.TheVariants.{Operation}
use Rattle.layout.specs.Words.{used}
use Rattle.layout.specs.NotCircuit.{not_circuit}

-- a circuit, and an expression whose operands are its nodes
pub record Operands (m : List ℕ) (e : Expression) : Type 0 where
  pub valid : not_circuit m ≡ false
  pub below : (o : Op) (l r : ℕ) → e ≡ Operation o l r → (l < used m) × (r < used m)
