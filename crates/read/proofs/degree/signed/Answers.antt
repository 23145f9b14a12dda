use Rattle.read.proofs.Degrees.{signed_some}
use mir.ValLaws.{to_z_pos}
use mir.Syntax.{w64}
use native.Mathlib.Omega.{arith}
use mathlib.Core.Path.{◌∙◌}
use Rattle.read.proofs.degree.signed.Goals as goal

pub returns-then-d-eq0 : goal.returns-then-d-eq0
returns-then-d-eq0 c = rw c.if-d-eq0.true

pub returns : goal.returns
returns c = to_z_pos w64 _ (omega arith) ∙ signed_some _ c.if-d-eq0.false
