use mathlib.Core.Path.{sym}
use lib.Seq.{set_out}
use Rattle.abi.proofs.answers.put.Goals as goal

pub returns-else-k-out : goal.returns-else-k-out
returns-else-k-out c = sym (set_out _ _ _ c.if-k-out.false)
