-- No extension constant of a circuit is a lifted base constant: it would unlift, and then it isn't stored. Assumes nothing.
use Prim.Native.Nat.{ℕ, ◌<◌}
use mathlib.Core.Path.{◌≡◌, refl}
use mathlib.Core.Bool.{Bool, true, false, ◌&&◌}
use mathlib.Core.List.{List}
use lib.Dec.{eqb, ltb}
use Rattle.arithmetic.specs.declared.Triple.{Triple}
use Rattle.arithmetic.specs.Extension.{lift, unlifts, same_triple}
use Rattle.layout.specs.declared.node.Expression.{Expression}
use Rattle.layout.specs.declared.node.Expression.TheVariants.{Base, Extension, Challenge, Operation, Input}
use Rattle.layout.specs.Words.{used, word, expression_at}
use Rattle.layout.specs.NotCircuit.{bad_words, bad_expression, bad_node, not_circuit}
use Rattle.layout.specs.Lifted.{lifted_is, NeverLifted}
use Rattle.layout.proofs.Tests.{neither}
use Rattle.layout.proofs.Valid.{valid_node}

-- a triple that is a lifted constant unlifts
lifted_unlifts : (x : Triple) (w : ℕ) → unlifts x ≡ false → same_triple x (lift w) ≡ false
unfolding unlifts same_triple
lifted_unlifts x w u = go (eqb x.c0 w) (eqb x.c1 0 && eqb x.c2 0) u
  where
    go : (a b : Bool) → b ≡ false → (a && b) ≡ false
    go true b h = h
    go false b h = refl

never : (m : List ℕ) → not_circuit m ≡ false → (i : ℕ) → i < used m → (w : ℕ) → lifted_is w (expression_at m i) ≡ false
unfolding bad_node bad_expression
never m v i h w = go (expression_at m i) (neither (ltb 1 (word m i 4)) _ (neither (ltb 8 (word m i 0)) _ (valid_node m v i h)).1).1
  where
    go : (e : Expression) → bad_expression m e ≡ false → lifted_is w e ≡ false
    go (Base v) g = refl
    go (Extension x) g = lifted_unlifts x w (neither (bad_words x) (unlifts x) g).1
    go (Challenge k) g = refl
    go (Operation o l r) g = refl
    go (Input q) g = refl

pub never_lifted : NeverLifted
never_lifted = record { never = never }
