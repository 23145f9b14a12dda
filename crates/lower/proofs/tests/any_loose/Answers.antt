use mathlib.Core.Path.{sym, ◌∙◌}
use Rattle.lower.specs.Tables.{is_loose_in}
use Rattle.layout.proofs.Tests.{any_start, any_one, any_next}
use Rattle.layout.proofs.Valid.{valid_length, valid_fits}
use Rattle.lower.proofs.tests.any_loose.Goals as goal

pub bounds-m-1 : goal.bounds-m-1
bounds-m-1 c = valid_length _ c.requires

pub loop-i-init : goal.loop-i-init
loop-i-init c = any_start (is_loose_in c.args.m.now c.args.counts.now)

pub is_loose-requires : goal.is_loose-requires
is_loose-requires c = valid_fits _ c.requires _ c.loop-i-test.true

pub returns-then-is_loose : goal.returns-then-is_loose
returns-then-is_loose c = sym (any_one (is_loose_in c.args.m.now c.args.counts.now) _ _ c.loop-i-test.true (sym c.is_loose.ensures ∙ c.if-is_loose.true))

pub loop-i-preserved : goal.loop-i-preserved
loop-i-preserved c = any_next (is_loose_in c.args.m.now c.args.counts.now) _ c.loop-i.invariant (sym c.is_loose.ensures ∙ c.if-is_loose.false)
