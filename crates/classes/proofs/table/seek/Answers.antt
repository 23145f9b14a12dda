use native.Mathlib.Omega.{arith}
use Rattle.classes.specs.Table.{listed}
use Rattle.classes.proofs.Chains.{spread_lt, go_start, go_falls, go_on, go_hit, go_end}
use mathlib.Core.Path.{sym, ◌∙◌}
use Rattle.classes.proofs.table.seek.Goals as goal

pub overflow_add-h : goal.overflow_add-h
overflow_add-h c = omega (arith, spread_lt (listed c.args.w), c.bucket.ensures)

pub offset_bounds-table-h : goal.offset_bounds-table-h
offset_bounds-table-h c = omega (arith, spread_lt (listed c.args.w), c.bucket.ensures)

pub bounds-table-h : goal.bounds-table-h
bounds-table-h c = omega (arith, spread_lt (listed c.args.w), c.bucket.ensures, c.requires.room)

pub loop-v-init : goal.loop-v-init
loop-v-init c = go_start _ _ c.requires _ c.bucket.ensures

pub returns-then-is_key : goal.returns-then-is_key
returns-then-is_key c = go_hit _ _ c.requires _ c.loop-v-test.true c.loop-v.invariant (sym c.is_key.ensures ∙ c.if-is_key.true)

pub loop-v-smaller : goal.loop-v-smaller
loop-v-smaller c = go_falls _ _ c.requires _ c.loop-v-test.true c.loop-v.invariant

pub loop-v-preserved : goal.loop-v-preserved
loop-v-preserved c = go_on _ _ c.requires _ c.loop-v-test.true c.loop-v.invariant (sym c.is_key.ensures ∙ c.if-is_key.false)

pub returns : goal.returns
returns c = go_end _ _ c.requires _ c.loop-v-test.false c.loop-v.invariant
