use Prim.Native.Nat.{◌+◌, ◌*◌}
use Rattle.reading.specs.Calls.{triple_at}
use lib.ListN.{get_or-eq_default}
use native.Mathlib.Omega.{arith}
use Rattle.read.proofs.value.aux_at.Goals as goal

pub returns-then-row-c : goal.returns-then-row-c
unfolding triple_at
returns-then-row-c c = rw (c.lift.ensures, get_or-eq_default c.args.row.now 0 {n = 3 * c.args.c} (omega arith), get_or-eq_default c.args.row.now 0 {n = 3 * c.args.c + 1} (omega arith), get_or-eq_default c.args.row.now 0 {n = 3 * c.args.c + 2} (omega arith))

pub returns : goal.returns
unfolding triple_at
returns c = rw (c.entry.ensures, c.entry-2.ensures, c.entry-3.ensures)
