use native.Mathlib.Omega.{arith}
use Rattle.stream.proofs.Gathering.{gathering_none, gathering_ended, gathering_more, gathering_all}
use Rattle.stream.proofs.line.gather.Goals as goal

pub loop-i-init : goal.loop-i-init
loop-i-init c = (c.requires, gathering_none _ _ _)

pub returns-then-b-eq-LINE_FEED : goal.returns-then-b-eq-LINE_FEED
returns-then-b-eq-LINE_FEED c = record { is = gathering_ended _ _ _ _ _ c.loop-i.invariant.1 c.loop-i-test.true c.if-b-eq-LINE_FEED.true; few = c.loop-i.invariant.0 }

pub loop-i-preserved : goal.loop-i-preserved
loop-i-preserved c = (omega (arith, c.keep-count.ensures.0, c.loop-i.auto.line), gathering_more _ _ _ _ _ c.loop-i.invariant.1 _ _ c.loop-i-test.true c.if-b-eq-LINE_FEED.false c.loop-i.auto.line c.keep-count.ensures.1)

pub returns : goal.returns
returns c = record { is = gathering_all _ _ _ _ _ c.loop-i.invariant.1 c.loop-i.auto.i-end c.loop-i-test.false; few = c.loop-i.invariant.0 }
