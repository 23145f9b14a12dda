use native.Mathlib.Omega.{arith}
use mathlib.Core.Path.{sym}
use lib.Seq.{set_out}
use Rattle.frame.proofs.roots.clear.Goals as goal

pub returns-then-roots-eq0 : goal.returns-then-roots-eq0
returns-then-roots-eq0 c = sym (set_out _ _ _ (omega arith))
