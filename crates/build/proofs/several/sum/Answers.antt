use native.Mathlib.Omega.{arith}
use Rattle.layout.proofs.Valid.{valid_length, valid_room}
use Rattle.build.proofs.Stepping.{told_at, told_full}
use Rattle.build.proofs.Undoing.{classable, back_step, sum_fits}
use Rattle.build.proofs.several.sum.Goals as goal

pub bounds-m-1 : goal.bounds-m-1
bounds-m-1 c = valid_length _ c.requires.buildable.circuit

pub overflow_sub-limit_of : goal.overflow_sub-limit_of
overflow_sub-limit_of c = let l = c.limit_of.ensures in let r = valid_room _ c.requires.buildable.circuit in omega arith

pub returns-then-ids-limit_of : goal.returns-then-ids-limit_of
returns-then-ids-limit_of c = sum_fits _ _ _ _ _ _ _ _ _ _ c.requires (let l = c.limit_of.ensures in let r = valid_room _ c.requires.buildable.circuit in let t = c.if-ids-limit_of.true in omega arith) c.try_sum.ensures

pub class_anew-requires : goal.class_anew-requires
class_anew-requires c = let s = told_full c.sum_or_back.ensures c.in_default.is in classable _ _ _ _ _ _ _ _ c.requires.buildable s.left c.sum_or_back.auto.numbers c.sum_or_back.auto.table c.sum_or_back.auto.least

pub returns-in-Some : goal.returns-in-Some
returns-in-Some c = record { told = told_at c.sum_or_back.ensures _ c.in-Some.is }

pub returns : goal.returns
returns c = let s = told_full c.sum_or_back.ensures c.in_default.is in back_step _ _ _ _ _ _ s s.left c.class_anew.ensures
