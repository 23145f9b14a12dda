-- No used node reads a column that an accepted lowering adds, in either row. Assumes nothing.
use Rattle.std.specs.Prelude.{Some}
use Prim.Native.Nat.{ℕ, ◌+◌, ◌<◌}
use mathlib.Core.Path.{◌≡◌, refl, ap, ◌∙◌}
use mathlib.Core.Logic.{◌⊎◌, inl, inr, ⊎_elim}
use mathlib.Core.Bool.{Bool, true, false}
use mathlib.Core.List.{List}
use native.Mathlib.Omega.{arith}
use lib.ListN.{length}
use Rattle.layout.specs.declared.node.Position.{Position}
use Rattle.layout.specs.declared.node.Position.TheVariants.{Main, Aux, NextMain, NextAux}
use Rattle.layout.specs.declared.node.Expression.{Expression}
use Rattle.layout.specs.declared.node.Expression.TheVariants.{Input}
use Rattle.layout.specs.Words.{used, expression_at}
use Rattle.lowering.specs.Lowering.{Lowering, too_high}
use Rattle.lowering.specs.Calls.{lower_call, returned}
use Rattle.lowering.specs.Unread.{Unread}
use Rattle.lowering.proofs.Shape.{expr_of}
use Rattle.lowering.proofs.Words.{look_in}
use Rattle.lowering.proofs.OneMore.{Taken}
use Rattle.lowering.proofs.Accepts.{accepted, columns_start, first_tests, then_tests_lem}
use Rattle.lowering.proofs.Theorem.{demand3}

-- where some root is too high, COLUMNS has looked at every input
taken : (T mc ac : ℕ) (lent : Lowering) → (lower_call T mc ac lent).number ≡ 0 → too_high T lent.circuit lent.roots ≡ true → (i : ℕ) → i < used lent.circuit → (q : Position) → expression_at lent.circuit i ≡ Input q → Taken (mc + 0) (ac + 0) q
taken T mc ac lent h high i l q e =
    let m : List ℕ = lent.circuit in
    let (f, g) = first_tests T mc ac lent (accepted T mc ac lent h) in
    let t = then_tests_lem T mc ac lent (rw high at g) in
    columns_start mc ac m lent.roots t.columns i q (look_in m i l ∙ ap (λ (x : Expression). Some (expr_of x)) e)

module _ (T mc ac : ℕ) (lent : Lowering) (h : (lower_call T mc ac lent).number ≡ 0) where
  none_or_high : (too_high T lent.circuit lent.roots ≡ true) ⊎ (length (returned (lower_call T mc ac lent)).main ≡ 0) × (length (returned (lower_call T mc ac lent)).aux ≡ 0)
  none_or_high = go (too_high T lent.circuit lent.roots) refl
    where
      go : (b : Bool) → too_high T lent.circuit lent.roots ≡ b → (too_high T lent.circuit lent.roots ≡ true) ⊎ (length (returned (lower_call T mc ac lent)).main ≡ 0) × (length (returned (lower_call T mc ac lent)).aux ≡ 0)
      go true e = inl e
      go false e = let (a, b) = (demand3 T mc ac lent h).no_new e in inr (ap length a, ap length b)

  pub unread : Unread mc ac lent.circuit (returned (lower_call T mc ac lent))
  unread =
      record {
        main = λ c a b. (
          λ i l e. ⊎_elim (λ k. omega (arith, taken T mc ac lent h k i l (Main c) e)) (λ k. omega (arith, k.0)) none_or_high,
          λ i l e. ⊎_elim (λ k. omega (arith, taken T mc ac lent h k i l (NextMain c) e)) (λ k. omega (arith, k.0)) none_or_high,
        );
        aux = λ c a b. (
          λ i l e. ⊎_elim (λ k. omega (arith, taken T mc ac lent h k i l (Aux c) e)) (λ k. omega (arith, k.1)) none_or_high,
          λ i l e. ⊎_elim (λ k. omega (arith, taken T mc ac lent h k i l (NextAux c) e)) (λ k. omega (arith, k.1)) none_or_high,
        );
      }
