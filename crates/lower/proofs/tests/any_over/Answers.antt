use mathlib.Core.Path.{sym, ◌∙◌}
use Rattle.lower.specs.Tables.{is_over_in}
use Rattle.layout.proofs.Tests.{any_start, any_one, any_next}
use Rattle.lower.proofs.tests.any_over.Goals as goal

pub loop-i-init : goal.loop-i-init
loop-i-init c = any_start (is_over_in c.args.degrees.now c.args.occurrences.now)

pub returns-then-is_over : goal.returns-then-is_over
returns-then-is_over c = sym (any_one (is_over_in c.args.degrees.now c.args.occurrences.now) _ _ c.loop-i-test.true (sym c.is_over.ensures ∙ c.if-is_over.true))

pub loop-i-preserved : goal.loop-i-preserved
loop-i-preserved c = any_next (is_over_in c.args.degrees.now c.args.occurrences.now) _ c.loop-i.invariant (sym c.is_over.ensures ∙ c.if-is_over.false)
