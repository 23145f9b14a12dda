use mathlib.Core.Path.{ap, ◌∙◌}
use mathlib.Core.Bool.{not}
use Rattle.frame.proofs.Responding.{in_time_first, in_time_after}
use Rattle.frame.proofs.respond.in_time.Goals as goal

pub returns-then-kind_of-eq0 : goal.returns-then-kind_of-eq0
returns-then-kind_of-eq0 c = λ rs main aux. c.is_start.ensures ∙ in_time_first _ rs main aux _ _ c.kind_of.ensures c.if-kind_of-eq0.true

pub returns : goal.returns
returns c = λ rs main aux. ap not c.is_start-2.ensures ∙ in_time_after _ rs main aux _ _ c.kind_of.ensures c.if-kind_of-eq0.false
