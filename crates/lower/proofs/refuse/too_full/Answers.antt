use native.Mathlib.Omega.{arith}
use Rattle.layout.proofs.Valid.{valid_length, valid_room}
use Rattle.lower.proofs.refuse.too_full.Goals as goal

pub bounds-m-1 : goal.bounds-m-1
bounds-m-1 c = valid_length _ c.requires.0

pub overflow_sub-result : goal.overflow_sub-result
overflow_sub-result c = let e = c.limit_of.ensures in let v = valid_room c.args.m.now c.requires.0 in omega arith

pub returns : goal.returns
returns c = rw c.limit_of.ensures
