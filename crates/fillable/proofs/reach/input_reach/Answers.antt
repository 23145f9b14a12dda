use native.Mathlib.Omega.{arith}
use Rattle.fillable.proofs.reach.input_reach.Goals as goal

pub overflow_add-result : goal.overflow_add-result
overflow_add-result c = let p = rw c.in-Main.is at c.requires in omega arith

pub returns-then-main : goal.returns-then-main
returns-then-main c = rw (c.in-Main.is, c.if-main.true) (omega arith)

pub overflow_add-result-in-Aux : goal.overflow_add-result-in-Aux
overflow_add-result-in-Aux c = let p = rw c.in-Aux.is at c.requires in omega arith

pub returns-else-main-2 : goal.returns-else-main-2
returns-else-main-2 c = rw (c.in-Aux.is, c.if-main-2.false) (omega arith)
