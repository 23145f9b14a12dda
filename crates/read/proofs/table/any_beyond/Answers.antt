use Rattle.read.specs.Lent.{beyond_at}
use Rattle.layout.proofs.Tests.{any_start, any_next, any_one}
use Rattle.layout.proofs.Valid.{valid_length}
use mathlib.Core.Path.{sym, ◌∙◌}
use Rattle.read.proofs.table.any_beyond.Goals as goal

pub bounds-m-1 : goal.bounds-m-1
bounds-m-1 c = valid_length _ c.requires.valid

pub loop-i-init : goal.loop-i-init
loop-i-init c = any_start (beyond_at c.args.m.now c.args.counts.now c.args.c)

pub returns-then-is_beyond : goal.returns-then-is_beyond
returns-then-is_beyond c = sym (any_one (beyond_at c.args.m.now c.args.counts.now c.args.c) _ c.loop-i.i c.loop-i-test.true (sym c.is_beyond.ensures ∙ c.if-is_beyond.true))

pub loop-i-preserved : goal.loop-i-preserved
loop-i-preserved c = any_next (beyond_at c.args.m.now c.args.counts.now c.args.c) c.loop-i.i c.loop-i.invariant (sym c.is_beyond.ensures ∙ c.if-is_beyond.false)
