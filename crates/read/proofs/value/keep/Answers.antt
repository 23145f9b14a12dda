use lib.ListN.{length-set}
use native.Mathlib.Omega.{arith}
use Rattle.read.proofs.value.keep.Goals as goal

pub bounds-table-place-2 : goal.bounds-table-place-2
bounds-table-place-2 c = simp length-set (omega arith)
