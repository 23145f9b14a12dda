-- A node gives an expression to one column at most: the one that it reads beside a product. Assumes nothing.
use Rattle.std.specs.Prelude.{if◌then◌else◌, None, Some}
use Prim.Native.Nat.{ℕ}
use mathlib.Core.Path.{◌≡◌, sym, ap, ◌∙◌}
use mathlib.Core.Bool.{true}
use mathlib.Core.List.{List}
use Rattle.layout.specs.declared.node.Position.{Position}
use Rattle.layout.specs.declared.node.Op.TheVariants.{Add, Multiply}
use Rattle.layout.specs.declared.node.Expression.{Expression}
use Rattle.layout.specs.declared.node.Expression.TheVariants.{Base, Extension, Challenge, Operation, Input}
use Rattle.layout.specs.Words.{expression_at}
use Rattle.filling.specs.Constraints.{minus_times, is_input, column_plus, expression_of}
use Rattle.filling.proofs.Items.{no, by_if, same_input}

module _ (m : List ℕ) where
  input_is : (y : Position) (i : ℕ) → is_input m y i ≡ true → expression_at m i ≡ Input y
  unfolding is_input
  input_is y i h = same_input (expression_at m i) y h

  -- two inputs are one
  one_input : (y z : Position) (i : ℕ) → is_input m y i ≡ true → is_input m z i ≡ true → y ≡ z
  one_input y z i g h = let p = input_is y i g in let q = input_is z i h in cc

  -- an input is no product
  no_product : {A : Type 0} (y : Position) (i e : ℕ) → is_input m y i ≡ true → minus_times m (expression_at m i) ≡ Some e → A
  no_product y i e g h = let z : None ≡ Some e = sym (ap (minus_times m) (input_is y i g)) ∙ h in no cc

  column_same : (y z : Position) (x : Expression) (e f : ℕ) → column_plus m y x ≡ Some e → column_plus m z x ≡ Some f → y ≡ z
  column_same y z (Base w) e f g h = no cc
  column_same y z (Extension x) e f g h = no cc
  column_same y z (Challenge k) e f g h = no cc
  column_same y z (Operation Multiply l r) e f g h = no cc
  column_same y z (Input q) e f g h = no cc
  column_same y z (Operation Add l r) e f g h =
      by_if (is_input m y l) (minus_times m (expression_at m r)) (if is_input m y r then minus_times m (expression_at m l) else None) e g
      (λ a p.
      by_if (is_input m z l) (minus_times m (expression_at m r)) (if is_input m z r then minus_times m (expression_at m l) else None) f h
      (λ b q. one_input y z l a b)
      (λ b q. by_if (is_input m z r) (minus_times m (expression_at m l)) None f q (λ d s. no_product y l f a s) (λ d s. no cc)))
      (λ a p.
      by_if (is_input m y r) (minus_times m (expression_at m l)) None e p
      (λ a' p'.
      by_if (is_input m z l) (minus_times m (expression_at m r)) (if is_input m z r then minus_times m (expression_at m l) else None) f h
      (λ b q. no_product y r f a' q)
      (λ b q. by_if (is_input m z r) (minus_times m (expression_at m l)) None f q (λ d s. one_input y z r a' d) (λ d s. no cc)))
      (λ a' p'. no cc))

  pub one_column : (y z : Position) (q e f : ℕ) → expression_of m y q ≡ Some e → expression_of m z q ≡ Some f → y ≡ z
  unfolding expression_of
  one_column y z q e f g h = column_same y z (expression_at m q) e f g h
