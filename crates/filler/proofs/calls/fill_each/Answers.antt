use Rattle.filler.proofs.Eachs.{filling_next, filling_done}
use Rattle.filler.proofs.calls.fill_each.Goals as goal

pub loop-r-preserved : goal.loop-r-preserved
loop-r-preserved c = filling_next _ _ _ _ _ _ _ _ _ _ _ _ _ _ c.requires _ _ _ _ _ c.loop-r.invariant c.loop-r.auto.r c.loop-r-test.true _ _ _ _ c.fill_row.ensures

pub returns : goal.returns
returns c = filling_done _ _ _ _ _ _ _ _ _ _ _ _ _ _ c.requires _ _ _ _ _ c.loop-r.invariant c.loop-r-test.false
