use native.Mathlib.Omega.{arith}
use native.Mathlib.Numerals.{add-one}
use lib.ListN.{length-set}
use Rattle.classes.specs.Table.{listed}
use Rattle.classes.proofs.Chains.{spread_lt, key_known, key_added}
use Rattle.classes.proofs.table.intern.Goals as goal

pub returns-in-Some : goal.returns-in-Some
returns-in-Some c = key_known _ _ _ c.requires (c.seek.ensures.hit _ c.in-Some.is)

pub overflow_add-h : goal.overflow_add-h
overflow_add-h c = omega (arith, spread_lt (listed c.args.w), c.bucket.ensures)

pub offset_bounds-table-h : goal.offset_bounds-table-h
offset_bounds-table-h c = omega (arith, spread_lt (listed c.args.w), c.bucket.ensures)

pub bounds-table-h : goal.bounds-table-h
bounds-table-h c = omega (arith, spread_lt (listed c.args.w), c.bucket.ensures, c.requires.more)

pub offset_bounds-table-h-2 : goal.offset_bounds-table-h-2
offset_bounds-table-h-2 c = omega (arith, spread_lt (listed c.args.w), c.bucket.ensures)

pub bounds-table-h-2 : goal.bounds-table-h-2
bounds-table-h-2 c = let e = c.write_key.auto.table in simp (length-set, e) (omega (arith, spread_lt (listed c.args.w), c.bucket.ensures, c.requires.more))

pub returns : goal.returns
returns c = key_added _ _ _ _ _ c.requires (rw c.in_default.is at c.seek.ensures) c.bucket.ensures (add-one _) c.write_key.ensures c.write_key.auto.table
