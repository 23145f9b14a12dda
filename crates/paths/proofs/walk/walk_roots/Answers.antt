use native.Mathlib.Omega.{arith}
use Rattle.paths.proofs.Stacks.{rooting_walking, rooting_next, rooting_done}
use Rattle.paths.proofs.walk.walk_roots.Goals as goal

pub walk_root-at-requires : goal.walk_root-at-requires
walk_root-at-requires c = rooting_walking _ _ _ _ c.requires _ _ _ _ c.loop-root.invariant c.loop-root-test.true

pub loop-root-preserved : goal.loop-root-preserved
loop-root-preserved c = rooting_next _ _ _ _ c.requires _ _ _ _ c.loop-root.invariant c.loop-root-test.true _ _ _ c.walk_root-at.auto.list c.walk_root-at.auto.stack c.walk_root-at.ensures

pub returns : goal.returns
returns c = rooting_done _ _ _ _ c.requires _ _ _ _ c.loop-root.invariant (omega arith)
