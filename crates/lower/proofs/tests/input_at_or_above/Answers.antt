use mathlib.Core.Path.{sym, ap, ◌∙◌}
use Rattle.lowering.specs.Refusals.{input_at_or_above}
use Rattle.lower.proofs.tests.input_at_or_above.Goals as goal

pub returns-in-Input : goal.returns-in-Input
returns-in-Input c = c.at_or_above.ensures ∙ sym (ap (input_at_or_above c.args.main_count c.args.aux_count) c.in-Input.is)
