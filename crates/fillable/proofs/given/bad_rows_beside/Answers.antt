use Rattle.layout.specs.NotCircuit.{bad_word}
use Rattle.fillable.specs.Beside.{bad_beside}
use Rattle.fillable.proofs.Turns.{row_lent, rest_lent, Beside, table_here, table_rest}
use Rattle.layout.specs.Lists.{any}
use Rattle.layout.proofs.Tests.{any_start, any_next}
use mathlib.Core.Path.{◌≡◌, refl, sym, ap, ◌∙◌}
use Prim.Native.Nat.{◌*◌}
use native.Mathlib.Omega.{arith}
use Rattle.fillable.proofs.given.bad_rows_beside.Goals as goal

pub loop-r-init : goal.loop-r-init
loop-r-init c = any_start (Beside c.args.width c.args.from c.args.to c.args.filled c.args.table.now)

pub returns-then-bad_beside : goal.returns-then-bad_beside
returns-then-bad_beside c = table_here c.args.width c.args.from c.args.to c.args.filled c.args.table.now c.loop-r.r c.loop-r-test.true (ap (bad_beside c.args.from c.args.to) (sym (row_lent c.args.width (c.loop-r.r * c.args.width) c.loop-r.r c.args.table.now refl)) ∙ sym c.bad_beside.ensures ∙ c.if-bad_beside.true)

pub loop-r-preserved : goal.loop-r-preserved
loop-r-preserved c = any_next (Beside c.args.width c.args.from c.args.to c.args.filled c.args.table.now) c.loop-r.r c.loop-r.invariant (ap (bad_beside c.args.from c.args.to) (sym (row_lent c.args.width (c.loop-r.r * c.args.width) c.loop-r.r c.args.table.now refl)) ∙ sym c.bad_beside.ensures ∙ c.if-bad_beside.false)

pub returns : goal.returns
returns c = let last : c.loop-r.r ≡ c.args.filled = omega arith in c.any_bad.ensures ∙ ap (any bad_word) (rest_lent (c.args.filled * c.args.width) c.args.table.now) ∙ table_rest c.args.width c.args.from c.args.to c.args.filled c.args.table.now (rw last at c.loop-r.invariant)
