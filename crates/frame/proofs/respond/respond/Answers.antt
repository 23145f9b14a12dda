use mathlib.Core.Path.{sym, ◌∙◌}
use Rattle.frame.proofs.Responding.{late, timely}
use Rattle.frame.proofs.respond.respond.Goals as goal

pub returns-then-not-in_time : goal.returns-then-not-in_time
returns-then-not-in_time c = late _ _ (sym (c.in_time.ensures _ _ _) ∙ c.if-not-in_time.true)

pub returns : goal.returns
returns c = timely _ _ _ (sym (c.in_time.ensures _ _ _) ∙ c.if-not-in_time.false) c.answer_to.ensures
