use Prim.Native.Nat.{◌+◌}
use Rattle.fillable.proofs.Fitting.{left_narrow}
use lib.ListN.{length}
use mathlib.Core.Path.{sym}
use native.Mathlib.Omega.{arith}
use borrow.Author.Tests.{lt-ltb}
use Rattle.fillable.proofs.rows.is_narrow.Goals as goal

pub returns-then-width-count : goal.returns-then-width-count
returns-then-width-count c = sym (lt-ltb c.args.width (c.args.count + length c.args.nodes.now) (omega arith))

pub returns : goal.returns
returns c = left_narrow c.args.width c.args.count (length c.args.nodes.now) (omega arith)
