-- Request 8: the branch for extension constants that the Rust's tests for 0, 1 and -1 have, and the degree's for a zero constant. Ours have none: in a
-- circuit it never says yes. Assumes nothing.
use Rattle.std.specs.Prelude.{ℕ, ◌<◌, ◌≡◌, Bool, false, List}
use Rattle.arithmetic.specs.Extension.{lift, same_triple}
use Rattle.layout.specs.declared.node.Expression.{Expression}
use Rattle.layout.specs.declared.node.Expression.TheVariants.{Base, Extension, Challenge, Operation, Input}
use Rattle.layout.specs.Words.{used, expression_at}
use Rattle.layout.specs.NotCircuit.{not_circuit}

-- the branch: an extension constant that is the base constant w, lifted
abbrev pub lifted_is : ℕ → Expression → Bool
lifted_is w (Base v) = false
lifted_is w (Extension x) = same_triple x (lift w)
lifted_is w (Challenge k) = false
lifted_is w (Operation o l r) = false
lifted_is w (Input q) = false

-- it says yes of no node of a circuit, for no constant w, 0, 1 and -1 among them
pub record NeverLifted : Type 0 where
  pub never : (m : List ℕ) → not_circuit m ≡ false → (i : ℕ) → i < used m → (w : ℕ) → lifted_is w (expression_at m i) ≡ false
