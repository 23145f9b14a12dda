use native.Mathlib.Omega.{arith}
use mathlib.Core.Path.{sym}
use lib.ListN.{get_or-eq_default}
use Rattle.frame.proofs.respond.used_of.Goals as goal

pub returns-then-m-lt2 : goal.returns-then-m-lt2
returns-then-m-lt2 c = sym (get_or-eq_default c.args.m.now 0 {n = 1} (omega arith))
