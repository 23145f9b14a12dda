use native.Mathlib.Omega.{arith}
use borrow.Author.Tests.{lt-ltb, le-ltb}
use Rattle.filler.proofs.plan.input_source.Goals as goal

pub returns-then-c-s : goal.returns-then-c-s
returns-then-c-s c = rw (c.in-Main.is, lt-ltb _ _ c.if-c-s.true)

pub returns-then-c-s-2 : goal.returns-then-c-s-2
returns-then-c-s-2 c = rw (c.in-Aux.is, lt-ltb _ _ c.if-c-s-2.true)

pub overflow_add-result : goal.overflow_add-result
overflow_add-result c = let b = c.requires.0.new_small in let h = c.requires.1 in let k = rw c.in-Aux.is at h in omega arith

pub overflow_add-result-in-NextMain : goal.overflow_add-result-in-NextMain
overflow_add-result-in-NextMain c = let b = c.requires.0.main_small in let h = c.requires.1 in let k = rw c.in-NextMain.is at h in omega arith

pub overflow_add-result-in-NextAux : goal.overflow_add-result-in-NextAux
overflow_add-result-in-NextAux c = let b = c.requires.0.aux_small in let h = c.requires.1 in let k = rw c.in-NextAux.is at h in omega arith

pub returns-else-c-s : goal.returns-else-c-s
returns-else-c-s c = rw (c.in-Main.is, le-ltb _ _ c.if-c-s.false)

pub returns-else-c-s-2 : goal.returns-else-c-s-2
returns-else-c-s-2 c = rw (c.in-Aux.is, le-ltb _ _ c.if-c-s-2.false)

pub returns-in-NextMain : goal.returns-in-NextMain
returns-in-NextMain c = rw c.in-NextMain.is

pub returns-in-NextAux : goal.returns-in-NextAux
returns-in-NextAux c = rw c.in-NextAux.is
