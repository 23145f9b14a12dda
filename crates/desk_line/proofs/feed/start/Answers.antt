use mathlib.Core.Path.{refl}
use Rattle.desk_line.proofs.feed.start.Goals as goal

pub returns : goal.returns
returns c = (refl, (refl, (refl, refl)))
