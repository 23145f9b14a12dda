-- A listed node that gives its column an expression is worth the column plus -1 times that expression. Assumes nothing.
use Rattle.std.specs.Prelude.{if◌then◌else◌, Option, None, Some}
use Prim.Native.Nat.{ℕ, ◌<◌}
use mathlib.Core.Path.{◌≡◌, refl, sym, ◌∙◌, ap, ap₂}
use mathlib.Core.Bool.{Bool, true, false}
use mathlib.Core.List.{List, ◌∷◌}
use native.Mathlib.Omega.{arith}
use lib.Dec.{eqb}
use borrow.Author.Tests.{eqb-true}
use Rattle.arithmetic.specs.Base.{minus_one}
use Rattle.arithmetic.specs.Extension.{lift, plus, times}
use Rattle.arithmetic.proofs.Algebra.{plus_comm, times_comm}
use Rattle.layout.specs.declared.node.Position.{Position}
use Rattle.layout.specs.declared.node.Position.TheVariants.{Main, Aux, NextMain, NextAux}
use Rattle.layout.specs.declared.node.Op.{Op}
use Rattle.layout.specs.declared.node.Op.TheVariants.{Add, Multiply}
use Rattle.layout.specs.declared.node.Expression.{Expression}
use Rattle.layout.specs.declared.node.Expression.TheVariants.{Base, Extension, Challenge, Operation, Input}
use Rattle.layout.specs.Lists.{any, same_words}
use Rattle.layout.specs.Words.{used, expression_at, encode, input_kind, column, is_constant, constant_is, apply, is_main}
use Rattle.layout.specs.Tree.{tree_over, tree}
use Rattle.layout.specs.NotCircuit.{not_circuit}
use Rattle.layout.proofs.Tests.{neither}
use Rattle.layout.proofs.Lists.{clash, and-true, and_both}
use Rattle.layout.proofs.Valid.{valid_operands}
use Rattle.layout.proofs.Trees.{tree_fixed}
use Rattle.walking.specs.Paths.{walk}
use Rattle.reading.specs.Readings.{Assignment, is_base, input_value, value}
use Rattle.filling.proofs.Values.{any-split}
use Rattle.filling.specs.Constraints.{minus_times, is_input, column_plus, expression_of}

pub no : {A : Type 0} → ◌≡◌ {A = ℕ} 0 1 → A
no h = absurd (omega arith)

-- one test out of an if
pub by_if : {A : Type 0} (b : Bool) (x y : Option ℕ) (e : ℕ) → (if b then x else y) ≡ Some e → (b ≡ true → x ≡ Some e → A) → (b ≡ false → y ≡ Some e → A) → A
by_if true x y e h f g = f refl h
by_if false x y e h f g = g refl h

-- positions by kind and column
position_same : (x y : Position) → input_kind x ≡ input_kind y → column x ≡ column y → x ≡ y
position_same (Main c) (Main d) k h = ap Main h
position_same (Main c) (Aux d) k h = absurd (omega arith)
position_same (Main c) (NextMain d) k h = absurd (omega arith)
position_same (Main c) (NextAux d) k h = absurd (omega arith)
position_same (Aux c) (Main d) k h = absurd (omega arith)
position_same (Aux c) (Aux d) k h = ap Aux h
position_same (Aux c) (NextMain d) k h = absurd (omega arith)
position_same (Aux c) (NextAux d) k h = absurd (omega arith)
position_same (NextMain c) (Main d) k h = absurd (omega arith)
position_same (NextMain c) (Aux d) k h = absurd (omega arith)
position_same (NextMain c) (NextMain d) k h = ap NextMain h
position_same (NextMain c) (NextAux d) k h = absurd (omega arith)
position_same (NextAux c) (Main d) k h = absurd (omega arith)
position_same (NextAux c) (Aux d) k h = absurd (omega arith)
position_same (NextAux c) (NextMain d) k h = absurd (omega arith)
position_same (NextAux c) (NextAux d) k h = ap NextAux h

kind_large : (y : Position) → 4 < input_kind y
kind_large (Main c) = omega arith
kind_large (Aux c) = omega arith
kind_large (NextMain c) = omega arith
kind_large (NextAux c) = omega arith

-- a node that passes is the input
pub same_input : (e : Expression) (y : Position) → same_words (encode e) (encode (Input y)) ≡ true → e ≡ Input y
unfolding same_words encode
same_input (Base w) y h = absurd (omega (arith, eqb-true 0 (input_kind y) (and-true _ _ h).0, kind_large y))
same_input (Extension x) y h = absurd (omega (arith, eqb-true 1 (input_kind y) (and-true _ _ h).0, kind_large y))
same_input (Challenge k) y h = absurd (omega (arith, eqb-true 2 (input_kind y) (and-true _ _ h).0, kind_large y))
same_input (Operation Add l r) y h = absurd (omega (arith, eqb-true 3 (input_kind y) (and-true _ _ h).0, kind_large y))
same_input (Operation Multiply l r) y h = absurd (omega (arith, eqb-true 4 (input_kind y) (and-true _ _ h).0, kind_large y))
same_input (Input x) y h =
    let (k, l) = and-true (eqb (input_kind x) (input_kind y)) _ h in
    ap Input (position_same x y (eqb-true _ _ k) (eqb-true _ _ (and-true (eqb (column x) (column y)) _ l).0))

-- what a listed node q says, if it gives the column y the expression e
pub record Item (m : List ℕ) (y : Position) (q e : ℕ) : Type 0 where
  pub here : e < used m
  pub worth : (s : Assignment) → value s (tree m q) ≡ plus (input_value s y) (times (lift minus_one) (value s (tree m e)))
  -- what no node below it does, none below the expression does
  pub reads : (t : ℕ → Bool) → any t (walk (tree m q)) ≡ false → any t (walk (tree m e)) ≡ false
  -- it passes the base test where both do
  pub base : is_main y ≡ true → is_base (tree m e) ≡ true → is_base (tree m q) ≡ true

module _ (m : List ℕ) (valid : not_circuit m ≡ false) where
  -- the value of an input, of a constant, of an operation
  input_value_lem : (y : Position) (i : ℕ) → i < used m → is_input m y i ≡ true → (s : Assignment) → value s (tree m i) ≡ input_value s y
  unfolding is_input value
  input_value_lem y i here h s = ap (value s) (tree_fixed m valid i here ∙ ap (λ (e : Expression). tree_over i e (tree m)) (same_input (expression_at m i) y h))

  constant_value : (w i : ℕ) → i < used m → is_constant w m i ≡ true → (s : Assignment) → value s (tree m i) ≡ lift w
  unfolding is_constant value
  constant_value w i here h s = ap (value s) (tree_fixed m valid i here) ∙ go (expression_at m i) h
    where
      go : (e : Expression) → constant_is w e ≡ true → value s (tree_over i e (tree m)) ≡ lift w
      go (Base v) k = ap lift (eqb-true v w k)
      go (Extension x) k = clash false k refl
      go (Challenge j) k = clash false k refl
      go (Operation o l r) k = clash false k refl
      go (Input q) k = clash false k refl

  input_base : (y : Position) (i : ℕ) → i < used m → is_input m y i ≡ true → is_main y ≡ true → is_base (tree m i) ≡ true
  unfolding is_input is_base
  input_base y i here h b = ap is_base (tree_fixed m valid i here ∙ ap (λ (e : Expression). tree_over i e (tree m)) (same_input (expression_at m i) y h)) ∙ b

  constant_base : (w i : ℕ) → i < used m → is_constant w m i ≡ true → is_base (tree m i) ≡ true
  unfolding is_constant is_base
  constant_base w i here h = ap is_base (tree_fixed m valid i here) ∙ go (expression_at m i) h
    where
      go : (e : Expression) → constant_is w e ≡ true → is_base (tree_over i e (tree m)) ≡ true
      go (Base v) k = refl
      go (Extension x) k = clash false k refl
      go (Challenge j) k = clash false k refl
      go (Operation o l r) k = clash false k refl
      go (Input y) k = clash false k refl

  operation_base : (i : ℕ) → i < used m → (o : Op) (l r : ℕ) → expression_at m i ≡ Operation o l r → is_base (tree m l) ≡ true → is_base (tree m r) ≡ true → is_base (tree m i) ≡ true
  unfolding is_base
  operation_base i here o l r e a b = ap is_base (tree_fixed m valid i here ∙ ap (λ (x : Expression). tree_over i x (tree m)) e) ∙ and_both (is_base (tree m l)) (is_base (tree m r)) a b

  operation_value : (i : ℕ) → i < used m → (o : Op) (l r : ℕ) → expression_at m i ≡ Operation o l r → (s : Assignment) → value s (tree m i) ≡ apply o (value s (tree m l)) (value s (tree m r))
  unfolding value
  operation_value i here o l r e s = ap (value s) (tree_fixed m valid i here ∙ ap (λ (x : Expression). tree_over i x (tree m)) e)

  operation-reads : (i : ℕ) → i < used m → (o : Op) (l r : ℕ) → expression_at m i ≡ Operation o l r → (t : ℕ → Bool) → any t (walk (tree m i)) ≡ false → (any t (walk (tree m l)) ≡ false) × (any t (walk (tree m r)) ≡ false)
  unfolding walk any
  operation-reads i here o l r e t h =
      let is : tree m i ≡ tree_over i (Operation o l r) (tree m) = tree_fixed m valid i here ∙ ap (λ (x : Expression). tree_over i x (tree m)) e in
      let (a, b) = any-split t (walk (tree m l)) (i ∷ walk (tree m r)) (rw is at h) in
      (a, (neither (t i) (any t (walk (tree m r))) b).1)

  -- -1 times an expression
  minus_value : (i : ℕ) → i < used m → (x : Expression) → expression_at m i ≡ x → (e : ℕ) → minus_times m x ≡ Some e
      → (e < used m) × ((s : Assignment) → value s (tree m i) ≡ times (lift minus_one) (value s (tree m e))) × (is_base (tree m e) ≡ true → is_base (tree m i) ≡ true)
      × ((t : ℕ → Bool) → any t (walk (tree m i)) ≡ false → any t (walk (tree m e)) ≡ false)
  minus_value i here (Base w) q e h = no cc
  minus_value i here (Extension x) q e h = no cc
  minus_value i here (Challenge k) q e h = no cc
  minus_value i here (Operation Add l r) q e h = no cc
  minus_value i here (Input y) q e h = no cc
  minus_value i here (Operation Multiply l r) q e h =
      let (hl, hr) = valid_operands m valid i here Multiply l r q in
      by_if (is_constant minus_one m l) (Some r) (if is_constant minus_one m r then Some l else None) e h
      (λ k z.
      let eq : r ≡ e = cc in
      (rw (← eq) hr, λ s. operation_value i here Multiply l r q s ∙ ap₂ times (constant_value minus_one l hl k s) (ap (λ (j : ℕ). value s (tree m j)) eq), λ b. operation_base i here Multiply l r q (constant_base minus_one l hl k) (ap (λ (j : ℕ). is_base (tree m j)) eq ∙ b), λ t n. ap (λ (j : ℕ). any t (walk (tree m j))) (sym eq) ∙ (operation-reads i here Multiply l r q t n).1))
      (λ k z.
      by_if (is_constant minus_one m r) (Some l) None e z
      (λ k' z'.
      let eq : l ≡ e = cc in
      (rw (← eq) hl, λ s. operation_value i here Multiply l r q s ∙ times_comm _ _ ∙ ap₂ times (constant_value minus_one r hr k' s) (ap (λ (j : ℕ). value s (tree m j)) eq), λ b. operation_base i here Multiply l r q (ap (λ (j : ℕ). is_base (tree m j)) eq ∙ b) (constant_base minus_one r hr k'), λ t n. ap (λ (j : ℕ). any t (walk (tree m j))) (sym eq) ∙ (operation-reads i here Multiply l r q t n).0))
      (λ k' z'. no cc))

  -- the column plus that
  column_value : (y : Position) (i : ℕ) → i < used m → (x : Expression) → expression_at m i ≡ x → (e : ℕ) → column_plus m y x ≡ Some e → Item m y i e
  column_value y i here (Base w) q e h = no cc
  column_value y i here (Extension x) q e h = no cc
  column_value y i here (Challenge k) q e h = no cc
  column_value y i here (Operation Multiply l r) q e h = no cc
  column_value y i here (Input x) q e h = no cc
  column_value y i here (Operation Add l r) q e h =
      let (hl, hr) = valid_operands m valid i here Add l r q in
      by_if (is_input m y l) (minus_times m (expression_at m r)) (if is_input m y r then minus_times m (expression_at m l) else None) e h
      (λ k z.
      let (below, eq, base, reads) = minus_value r hr (expression_at m r) refl e z in
      record { here = below; worth = λ s. operation_value i here Add l r q s ∙ ap₂ plus (input_value_lem y l hl k s) (eq s); reads = λ t n. reads t (operation-reads i here Add l r q t n).1; base = λ a b. operation_base i here Add l r q (input_base y l hl k a) (base b) })
      (λ k z.
      by_if (is_input m y r) (minus_times m (expression_at m l)) None e z
      (λ k' z'.
      let (below, eq, base, reads) = minus_value l hl (expression_at m l) refl e z' in
      record { here = below; worth = λ s. operation_value i here Add l r q s ∙ plus_comm _ _ ∙ ap₂ plus (input_value_lem y r hr k' s) (eq s); reads = λ t n. reads t (operation-reads i here Add l r q t n).0; base = λ a b. operation_base i here Add l r q (base b) (input_base y r hr k' a) })
      (λ k' z'. no cc))

  pub item : (y : Position) (q : ℕ) → q < used m → (e : ℕ) → expression_of m y q ≡ Some e → Item m y q e
  unfolding expression_of
  item y q here e h = column_value y q here (expression_at m q) refl e h
