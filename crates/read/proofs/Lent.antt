-- The lent tables of an evaluation: what makes them bad. Assumes nothing.
use Prim.Native.Nat.{ℕ, ◌≤◌}
use mathlib.Core.Path.{◌≡◌, refl, ◌∙◌}
use mathlib.Core.Logic.{⊎_elim}
use mathlib.Core.Bool.{true, false, ◌||◌, not}
use mathlib.Core.List.{List, [], ◌∷◌}
use native.Mathlib.Omega.{arith}
use lib.Dec.{ltb, eqb}
use lib.ListN.{length}
use borrow.Author.Tests.{eqb-true, not-false}
use Rattle.layout.specs.declared.node.Position.TheVariants.{Main, Aux, NextMain, NextAux}
use Rattle.layout.specs.declared.node.Expression.{Expression}
use Rattle.layout.specs.declared.node.Expression.TheVariants.{Base, Extension, Challenge, Operation, Input}
use Rattle.layout.specs.Lists.{any, up_to}
use Rattle.layout.specs.Words.{row_kind, used, limit, expression_at}
use Rattle.layout.specs.NotCircuit.{bad_header, not_circuit, bad_id}
use Rattle.layout.proofs.Tests.{neither, either}
use Rattle.layout.proofs.Valid.{valid_header}
use Rattle.paths.specs.Counting.{PathCounts}
use Rattle.paths.proofs.Below.{walks_one}
use Rattle.reading.specs.Refusals.{columns_lent, reads_beyond, bad_table}
use Rattle.read.specs.Lent.{columns_of, uneven, beyond, beyond_at}
use Rattle.read.proofs.Highest.{any_below}

-- one row or two
pub valid_rows : (m : List ℕ) → not_circuit m ≡ false → (1 ≤ row_kind m) × (row_kind m ≤ 2)
unfolding bad_header
valid_rows m v =
    let h = (neither (not (eqb (row_kind m) 1 || eqb (row_kind m) 2)) (ltb (limit m) (used m)) (neither (ltb (length m) 2) _ (valid_header m v)).1).0 in
    ⊎_elim (λ e. let q = eqb-true (row_kind m) 1 e in (omega arith, omega arith)) (λ e. let q = eqb-true (row_kind m) 2 e in (omega arith, omega arith)) (either (eqb (row_kind m) 1) (eqb (row_kind m) 2) (not-false _ h))

-- a read beyond the tables, by their columns
beyond_columns : (m main aux challenges : List ℕ) (e : Expression) → beyond (columns_of m main aux challenges) e ≡ reads_beyond m main aux challenges e
unfolding columns_lent
beyond_columns m main aux challenges (Base w) = refl
beyond_columns m main aux challenges (Extension x) = refl
beyond_columns m main aux challenges (Challenge k) = refl
beyond_columns m main aux challenges (Operation o l r) = refl
beyond_columns m main aux challenges (Input (Main c)) = refl
beyond_columns m main aux challenges (Input (Aux c)) = refl
beyond_columns m main aux challenges (Input (NextMain c)) = refl
beyond_columns m main aux challenges (Input (NextAux c)) = refl

module _ (m main aux challenges : List ℕ) (i : ℕ) where
  pub table_uneven : uneven m main aux challenges ≡ true → true ≡ bad_table m i main aux challenges
  unfolding bad_table
  table_uneven h = rw h

  pub table_even : (counts : List ℕ) → not_circuit m ≡ false → bad_id m (i ∷ []) ≡ false → PathCounts m (i ∷ []) counts → uneven m main aux challenges ≡ false → any (beyond_at m counts (columns_of m main aux challenges)) (up_to (used m)) ≡ bad_table m i main aux challenges
  unfolding bad_table beyond_at
  table_even counts v k c h =
      any_below m (i ∷ []) counts v k c (λ j. beyond (columns_of m main aux challenges) (expression_at m j)) (λ j. reads_beyond m main aux challenges (expression_at m j)) (λ j l. beyond_columns m main aux challenges (expression_at m j))
      ∙ rw (h, walks_one m i)
