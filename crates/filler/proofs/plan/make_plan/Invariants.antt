use Rattle.filler.proofs.Plans.{Planning}
use Rattle.filler.proofs.plan.make_plan.Given as goal

abbrev pub invariant-loop-i : goal.invariant-loop-i
invariant-loop-i l = Planning l.s l.m l.bases l.targets l.challenges l.order l.rank l.initial.alias l.initial.plan l.alias l.plan l.i-index l.many
