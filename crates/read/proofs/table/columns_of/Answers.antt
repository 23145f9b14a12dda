use Rattle.read.proofs.Lent.{valid_rows}
use Rattle.layout.proofs.Valid.{valid_length}
use native.Mathlib.Omega.{arith}
use borrow.Author.Rules.{rules}
use Rattle.read.proofs.table.columns_of.Goals as goal

pub bounds-m-0 : goal.bounds-m-0
bounds-m-0 c = omega (arith, valid_length _ c.requires)

pub nonzero_div-result : goal.nonzero_div-result
nonzero_div-result c = let r = valid_rows _ c.requires in search rules

pub overflow_mul-result : goal.overflow_mul-result
overflow_mul-result c = let r = valid_rows _ c.requires in search rules

pub nonzero_div-result-2 : goal.nonzero_div-result-2
nonzero_div-result-2 c = let r = valid_rows _ c.requires in search rules
