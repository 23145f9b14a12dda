use mathlib.Core.Path.{◌∙◌}
use Rattle.lower.proofs.Refuses.{high_told}
use Rattle.lower.proofs.refuse.exceeds.Goals as goal

pub returns : goal.returns
returns c = c.too_high.ensures ∙ high_told _ _ _ _ _ _ c.requires c.survey.ensures _
