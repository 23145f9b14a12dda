-- Expressions whose operands are nodes: those of a circuit. Assumes nothing.
use Prim.Native.Nat.{ℕ, ◌+◌, ◌<◌, ◌≤◌}
use mathlib.Core.Path.{◌≡◌, refl}
use mathlib.Core.Bool.{false}
use mathlib.Core.List.{List}
use lib.ListN.{length}
use Rattle.layout.specs.declared.node.Op.{Op}
use Rattle.layout.specs.declared.node.Expression.{Expression}
use Rattle.layout.specs.declared.node.Expression.TheVariants.{Operation}
use Rattle.layout.specs.Words.{used, offset, expression_at}
use Rattle.layout.specs.NotCircuit.{not_circuit}
use Rattle.layout.proofs.Valid.{valid_fits, valid_operands}
use Rattle.fillable.specs.Forms.{Operands}

pub operands_same : (m : List ℕ) (e f : Expression) → e ≡ f → Operands m e → Operands m f
operands_same m e f h q = rw (← h) q

-- an operation, once its operation is known
pub operands_of : (m : List ℕ) (e : Expression) (o p : Op) (l r : ℕ) → e ≡ Operation o l r → o ≡ p → Operands m e → Operands m (Operation p l r)
operands_of m e o p l r h k q = rw (← k, ← h) q

pub operands_at : (m : List ℕ) → not_circuit m ≡ false → (i : ℕ) → i < used m → Operands m (expression_at m i)
operands_at m valid i h = record { valid = valid; below = valid_operands m valid i h }

-- each has its six words
module _ {m : List ℕ} {o : Op} {l r : ℕ} (q : Operands m (Operation o l r)) where
  pub left-fits : offset l + 6 ≤ length m
  left-fits = valid_fits m q.valid l (q.below o l r refl).0

  pub right_fits : offset r + 6 ≤ length m
  right_fits = valid_fits m q.valid r (q.below o l r refl).1
