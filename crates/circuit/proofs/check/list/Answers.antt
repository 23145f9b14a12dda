use mathlib.Core.Path.{refl}
use native.Mathlib.Omega.{arith}
use lib.ListN.{length-set}
use borrow.Author.Count.{below_none}
use Rattle.circuit.specs.Walk.{Placed}
use Rattle.circuit.proofs.Orders.{place_next}
use Rattle.circuit.proofs.check.list.Goals as goal

pub loop-i-init : goal.loop-i-init
loop-i-init c = (refl, below_none _)

pub loop-i-preserved : goal.loop-i-preserved
loop-i-preserved c = (simp length-set c.loop-i.invariant.0, place_next c.loop-i.order c.args.rank.now _ c.loop-i.i c.requires.0 c.loop-i-test.true (omega arith) c.loop-i.invariant.1)

pub returns : goal.returns
unfolding Placed
returns c = λ i l. c.loop-i.invariant.1 i (omega arith)
