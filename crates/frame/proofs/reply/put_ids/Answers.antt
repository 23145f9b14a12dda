use native.Mathlib.Omega.{arith}
use lib.ListN.{length-take}
use Rattle.frame.proofs.Writing.{ids_none, ids_behind, ids_more}
use Rattle.frame.proofs.reply.put_ids.Goals as goal

pub loop-i-init : goal.loop-i-init
loop-i-init c = ids_none _ _ c.args.ids.now

pub put_two-next-requires : goal.put_two-next-requires
put_two-next-requires c = omega (arith, ids_behind _ _ _ _ _ _ c.loop-i.invariant c.loop-i.auto.i-index-end, length-take c.min.result c.args.ids.now)

pub loop-i-preserved : goal.loop-i-preserved
loop-i-preserved c = ids_more _ _ _ _ _ _ c.loop-i.invariant _ _ c.loop-i-test.true c.put_two-next.ensures
