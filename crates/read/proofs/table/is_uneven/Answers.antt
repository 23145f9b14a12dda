use borrow.Author.Rules.{rules}
use Rattle.read.proofs.Lent.{valid_rows}
use Rattle.layout.proofs.Valid.{valid_length}
use native.Mathlib.Omega.{arith}
use Rattle.read.proofs.table.is_uneven.Goals as goal

pub bounds-m-0 : goal.bounds-m-0
bounds-m-0 c = omega (arith, valid_length _ c.requires)

pub nonzero_rem-main : goal.nonzero_rem-main
nonzero_rem-main c = let r = valid_rows _ c.requires in search rules

pub overflow_mul-rows : goal.overflow_mul-rows
overflow_mul-rows c = let r = valid_rows _ c.requires in search rules

pub nonzero_rem-aux : goal.nonzero_rem-aux
nonzero_rem-aux c = let r = valid_rows _ c.requires in search rules
