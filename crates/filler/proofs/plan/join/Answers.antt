use native.Mathlib.Omega.{arith}
use borrow.Author.Tests.{eq-eqb, ne_eqb}
use Rattle.filler.proofs.Instructions.{op_small}
use Rattle.filler.proofs.plan.join.Goals as goal

pub overflow_add-straight : goal.overflow_add-straight
overflow_add-straight c = let s = op_small c.args.o in let e = c.op_of-op.ensures in omega arith

pub returns-then-x-eq1 : goal.returns-then-x-eq1
returns-then-x-eq1 c = rw (eq-eqb _ _ c.if-x-y.true, eq-eqb _ 1 c.if-x-eq1.true) cc

pub overflow_add-result : goal.overflow_add-result
overflow_add-result c = let s = op_small c.args.o in let e = c.op_of-op.ensures in omega arith

pub returns-then-x-y : goal.returns-then-x-y
returns-then-x-y c = rw (eq-eqb _ _ c.if-x-y.true, ne_eqb _ 1 c.if-x-eq1.false) cc

pub returns-then-x-eq1-2 : goal.returns-then-x-eq1-2
returns-then-x-eq1-2 c = rw (ne_eqb _ _ c.if-x-y.false, eq-eqb _ 1 c.if-x-eq1-2.true) cc

pub overflow_add-result-2 : goal.overflow_add-result-2
overflow_add-result-2 c = let s = op_small c.args.o in let e = c.op_of-op.ensures in omega arith

pub returns : goal.returns
returns c = rw (ne_eqb _ _ c.if-x-y.false, ne_eqb _ 1 c.if-x-eq1-2.false) cc
