use Rattle.read.proofs.Highest.{degree_highest}
use mathlib.Core.Path.{◌∙◌}
use Rattle.read.proofs.degree.degree.Goals as goal

pub returns : goal.returns
returns c = c.highest.ensures ∙ degree_highest _ _
