use native.Mathlib.Omega.{arith}
use Rattle.paths.proofs.Counts.{seeded_start, seeded_next}
use Rattle.paths.proofs.counting.seed.Goals as goal

pub loop-root-init : goal.loop-root-init
loop-root-init c = seeded_start _ _ _ c.requires.none

pub loop-root-preserved : goal.loop-root-preserved
loop-root-preserved c = let b = c.requires.below _ c.loop-root-test.true in let r = c.requires.room in seeded_next _ _ _ _ _ c.loop-root.invariant c.loop-root-test.true (omega arith) c.add_at.ensures
