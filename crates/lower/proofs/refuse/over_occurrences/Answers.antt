use mathlib.Core.Path.{◌∙◌}
use Rattle.layout.proofs.Valid.{valid_length}
use Rattle.lower.proofs.Refuses.{over_from_lem}
use Rattle.lower.proofs.refuse.over_occurrences.Goals as goal

pub bounds-m-1 : goal.bounds-m-1
bounds-m-1 c = valid_length _ c.requires.0

pub returns : goal.returns
returns c = c.any_over.ensures ∙ over_from_lem _ _ _ _ _ c.occurrences.ensures
