use mathlib.Core.Path.{sym, ◌∙◌}
use Rattle.layout.specs.Words.{expression_at}
use Rattle.lowering.specs.Refusals.{input_at_or_above}
use Rattle.layout.proofs.Tests.{any_start, any_one, any_next}
use Rattle.layout.proofs.Valid.{valid_length, valid_fits}
use Rattle.lower.proofs.tests.any_at_or_above.Goals as goal

pub bounds-m-1 : goal.bounds-m-1
bounds-m-1 c = valid_length _ c.requires

pub loop-i-init : goal.loop-i-init
loop-i-init c = any_start (λ i. input_at_or_above c.args.main_count c.args.aux_count (expression_at c.args.m.now i))

pub expression_at-requires : goal.expression_at-requires
expression_at-requires c = valid_fits _ c.requires _ c.loop-i-test.true

pub returns-then-input_at_or_above : goal.returns-then-input_at_or_above
returns-then-input_at_or_above c = sym (any_one (λ i. input_at_or_above c.args.main_count c.args.aux_count (expression_at c.args.m.now i)) _ _ c.loop-i-test.true (rw (← c.expression_at.ensures) (sym c.input_at_or_above.ensures ∙ c.if-input_at_or_above.true)))

pub loop-i-preserved : goal.loop-i-preserved
loop-i-preserved c = any_next (λ i. input_at_or_above c.args.main_count c.args.aux_count (expression_at c.args.m.now i)) _ c.loop-i.invariant (rw (← c.expression_at.ensures) (sym c.input_at_or_above.ensures ∙ c.if-input_at_or_above.false))
