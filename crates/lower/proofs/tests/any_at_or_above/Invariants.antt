use mathlib.Core.Path.{◌≡◌}
use mathlib.Core.Bool.{false}
use Rattle.layout.specs.Lists.{any, up_to}
use Rattle.layout.specs.Words.{expression_at}
use Rattle.lowering.specs.Refusals.{input_at_or_above}
use Rattle.lower.proofs.tests.any_at_or_above.Given as goal

abbrev pub invariant-loop-i : goal.invariant-loop-i
invariant-loop-i l = any (λ j. input_at_or_above l.main_count l.aux_count (expression_at l.m j)) (up_to l.i) ≡ false
