use Rattle.reading.specs.Calls.{triple_at}
use mathlib.Core.Path.{refl}
use Rattle.read.proofs.value.entry_at.Goals as goal

pub returns : goal.returns
unfolding triple_at
returns c = refl
