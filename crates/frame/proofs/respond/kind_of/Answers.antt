use native.Mathlib.Omega.{arith}
use mathlib.Core.Path.{sym}
use lib.ListN.{get_or-eq_default}
use Rattle.frame.proofs.respond.kind_of.Goals as goal

pub returns-then-m-eq0 : goal.returns-then-m-eq0
returns-then-m-eq0 c = sym (get_or-eq_default c.args.m.now 0 {n = 0} (omega arith))
