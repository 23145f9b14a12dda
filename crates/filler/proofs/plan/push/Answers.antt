use native.Mathlib.Omega.{arith}
use lib.ListN.{length-set}
use mathlib.Core.Path.{refl}
use borrow.Author.Tests.{eq-eqb, ne_eqb}
use Rattle.filler.proofs.plan.push.Goals as goal

pub returns-then-x-eq9 : goal.returns-then-x-eq9
returns-then-x-eq9 c = rw (eq-eqb _ 9 c.if-x-eq9.true) (refl, refl)

pub bounds-plan-place-2 : goal.bounds-plan-place-2
bounds-plan-place-2 c = simp length-set (omega arith)

pub bounds-plan-place-3 : goal.bounds-plan-place-3
bounds-plan-place-3 c = simp length-set (omega arith)

pub bounds-plan-place-4 : goal.bounds-plan-place-4
bounds-plan-place-4 c = simp length-set (omega arith)

pub returns : goal.returns
returns c = rw (ne_eqb _ 9 c.if-x-eq9.false) (refl, refl)
