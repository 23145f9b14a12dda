use Rattle.read.specs.Degrees.{over_at}
use Rattle.layout.proofs.Tests.{any_start, any_next, any_one}
use Rattle.layout.proofs.Valid.{valid_length}
use mathlib.Core.Path.{sym, ◌∙◌}
use Rattle.read.proofs.degree.any_over.Goals as goal

pub bounds-m-1 : goal.bounds-m-1
bounds-m-1 c = valid_length _ c.requires.valid

pub loop-i-init : goal.loop-i-init
loop-i-init c = any_start (over_at c.args.counts.now c.args.table.now)

pub returns-then-is_over : goal.returns-then-is_over
returns-then-is_over c = sym (any_one (over_at c.args.counts.now c.args.table.now) _ c.loop-i.i c.loop-i-test.true (sym c.is_over.ensures ∙ c.if-is_over.true))

pub loop-i-preserved : goal.loop-i-preserved
loop-i-preserved c = any_next (over_at c.args.counts.now c.args.table.now) c.loop-i.i c.loop-i.invariant (sym c.is_over.ensures ∙ c.if-is_over.false)
