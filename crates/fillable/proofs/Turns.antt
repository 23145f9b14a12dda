-- A loop over the rows of one table, and the rest after them. Assumes nothing.
use Prim.Native.Nat.{ℕ, ◌+◌, ◌-◌, ◌*◌, ◌/◌, ◌<◌, ◌≤◌}
use mathlib.Core.Path.{◌≡◌, sym, ap, ◌∙◌}
use mathlib.Core.Bool.{Bool, true, false}
use mathlib.Core.List.{List, []}
use native.Mathlib.Nat.{mul-le-mul_right, mul-div-le}
use native.Mathlib.Omega.{arith}
use lib.ListN.{length, take, drop, length-drop, drop_of_length-le}
use lib.Seq.{take_all, take-nil, drop-nil}
use Rattle.layout.specs.Lists.{any, up_to}
use Rattle.layout.specs.NotCircuit.{bad_word}
use Rattle.layout.proofs.Tests.{or-false, any_one, any_none}
use Rattle.layout.proofs.Lists.{or_left}
use Rattle.fillable.specs.Beside.{row_of, bad_beside, bad_table_beside}

-- some of its rows lie in a table
pub rows_within : (rows n : ℕ) (table : List ℕ) → n ≤ rows → n * (length table / rows) ≤ length table
rows_within rows n table h =
    let g : n * (length table / rows) ≤ rows * (length table / rows) = mul-le-mul_right (length table / rows) h in
    let d = mul-div-le (length table) rows in
    omega arith

-- the row that a turn is lent
pub row_lent : (width at r : ℕ) (table : List ℕ) → at ≡ r * width → take (at + width - at) (drop at table) ≡ row_of width table r
row_lent width at r table e =
    let size : at + width - at ≡ width = omega arith in
    ap (λ (n : ℕ). take n (drop at table)) size ∙ ap (λ (s : ℕ). take width (drop s table)) e

-- what is lent from a place on
pub rest_lent : (at : ℕ) (table : List ℕ) → take (length table - at) (drop at table) ≡ drop at table
rest_lent at table = take_all (length table - at) (drop at table) (omega (arith, length-drop at table))

module _ (width from to filled : ℕ) (table : List ℕ) where
  abbrev pub Beside : ℕ → Bool
  Beside r = bad_beside from to (row_of width table r)

  pub table_here : (r : ℕ) → r < filled → Beside r ≡ true → true ≡ bad_table_beside width from to filled table
  unfolding bad_table_beside
  table_here r l e = sym (or_left (any Beside (up_to filled)) (any bad_word (drop (filled * width) table)) (any_one Beside filled r l e))

  pub table_rest : any Beside (up_to filled) ≡ false → any bad_word (drop (filled * width) table) ≡ bad_table_beside width from to filled table
  unfolding bad_table_beside
  table_rest h = rw h

  -- an empty table has no bad word
  pub table_empty : length table ≡ 0 → false ≡ bad_table_beside width from to filled table
  unfolding bad_table_beside bad_beside any
  table_empty e =
      let none : (n : ℕ) → drop n table ≡ [] = λ n. drop_of_length-le table {i = n} (omega arith) in
      sym
      (or-false (any Beside (up_to filled)) (any bad_word (drop (filled * width) table))
      (any_none Beside filled (λ r l. rw (none (r * width), take-nil {A = ℕ} width, take-nil {A = ℕ} from, drop-nil {A = ℕ} to)))
      (rw (none (filled * width))))
