use Rattle.classes.proofs.Chains.{key_stored}
use lib.ListN.{length-set}
use native.Mathlib.Omega.{arith}
use Rattle.classes.proofs.table.write_key.Goals as goal

pub bounds-table-at-2 : goal.bounds-table-at-2
bounds-table-at-2 c = simp length-set (omega arith)

pub bounds-table-at-3 : goal.bounds-table-at-3
bounds-table-at-3 c = simp length-set (omega arith)

pub bounds-table-at-4 : goal.bounds-table-at-4
bounds-table-at-4 c = simp length-set (omega arith)

pub bounds-table-at-5 : goal.bounds-table-at-5
bounds-table-at-5 c = simp length-set (omega arith)

pub returns : goal.returns
returns c = key_stored _ _ _ _ _ _ _ c.requires
