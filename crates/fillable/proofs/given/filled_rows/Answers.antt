use Rattle.read.proofs.Lent.{valid_rows}
use Rattle.layout.proofs.Valid.{valid_length}
use native.Mathlib.Omega.{arith}
use Rattle.fillable.proofs.given.filled_rows.Goals as goal

pub bounds-m-0 : goal.bounds-m-0
bounds-m-0 c = omega (arith, valid_length _ c.requires.0)

pub overflow_sub-result : goal.overflow_sub-result
overflow_sub-result c = let r = valid_rows _ c.requires.0 in omega arith

pub overflow_sub-result-2 : goal.overflow_sub-result-2
overflow_sub-result-2 c = let r = valid_rows _ c.requires.0 in omega arith

pub returns : goal.returns
returns c = let r = valid_rows _ c.requires.0 in omega arith
