use Rattle.arithmetic.specs.Extension.{lift}
use mathlib.Core.Path.{ap, ◌∙◌}
use Rattle.read.proofs.value.main_at.Goals as goal

pub returns : goal.returns
returns c = c.lift.ensures ∙ ap lift c.entry.ensures
