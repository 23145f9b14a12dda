use mathlib.Core.Path.{◌∙◌}
use native.Mathlib.Omega.{arith}
use Rattle.classes.proofs.Firsts.{lower_start, lower_some, lower_turn}
use Rattle.classes.proofs.least.least_ids.Goals as goal

pub loop-i-init : goal.loop-i-init
loop-i-init c = lower_start _ c.blank.new.s _ (λ v l. c.blank.ensures v (let e = c.blank.auto.s in omega arith))

pub overflow_sub-class : goal.overflow_sub-class
overflow_sub-class c = lower_some _ _ _ _ _ _ c.requires (c.loop-i.auto.least ∙ c.blank.auto.s) c.loop-i.auto.class c.loop-i.invariant c.loop-i-test.true _ c.note.auto.least c.note.ensures

pub loop-i-preserved : goal.loop-i-preserved
loop-i-preserved c = lower_turn _ _ _ _ _ _ c.requires (c.loop-i.auto.least ∙ c.blank.auto.s) c.loop-i.auto.class c.loop-i.invariant c.loop-i-test.true _ c.note.auto.least c.note.ensures
