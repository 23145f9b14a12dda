use Prim.Native.Nat.{ℕ, ◌*◌}
use mathlib.Core.Path.{ap, ◌∙◌}
use native.Mathlib.Omega.{arith}
use Rattle.desk_line.proofs.Widths.{at_most_two, rows_no_digits, rows_counted}
use Rattle.desk_line.proofs.row.is_rows.Goals as goal

pub returns-then-not-all_digits : goal.returns-then-not-all_digits
returns-then-not-all_digits c = rows_no_digits _ _ _ _ c.all_digits.ensures c.if-not-all_digits.true

pub overflow_add-result : goal.overflow_add-result
overflow_add-result c = omega (arith, c.in_rows-bytes.ensures, c.row_bytes.ensures, at_most_two _ c.row_bytes.result c.requires.1, c.requires.0.main, c.requires.0.aux)

pub overflow_mul-result : goal.overflow_mul-result
overflow_mul-result c = omega (arith, c.in_rows-bytes.ensures, c.row_bytes.ensures, at_most_two _ c.row_bytes.result c.requires.1, c.requires.0.main, c.requires.0.aux)

pub returns : goal.returns
returns c = rows_counted _ _ _ _ c.all_digits.ensures c.if-not-all_digits.false _ (c.in_rows-bytes.ensures ∙ ap (λ (q : ℕ). c.args.rows * q) c.row_bytes.ensures)
