use Rattle.filler.proofs.Runs.{running_start, running_next}
use Rattle.filler.proofs.run.run.Goals as goal

pub loop-q-init : goal.loop-q-init
loop-q-init c = running_start c.args.plan.now c.args.main.now c.args.aux.now _ _

pub loop-q-preserved : goal.loop-q-preserved
loop-q-preserved c = running_next _ _ _ _ _ _ _ _ c.loop-q.invariant _ c.instruction_at.ensures _ _ c.step.ensures
