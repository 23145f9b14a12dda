use Rattle.abi.proofs.Passing.{done_on, single, dual, no_kind}
use Rattle.std.specs.Prelude.{Err}
use Rattle.layout.specs.declared.refusal.Refusal.TheVariants.{NotCircuit}
use mathlib.Core.Path.{◌∙◌}
use Rattle.abi.proofs.circuits.atz_start.Goals as goal

pub returns-then-kind-eq1 : goal.returns-then-kind-eq1
returns-then-kind-eq1 c = done_on _ (c.start.ensures ∙ single _ _ c.if-kind-eq1.true) c.number.ensures

pub returns-then-kind-eq2 : goal.returns-then-kind-eq2
returns-then-kind-eq2 c = done_on _ (c.start-then-kind-eq2.ensures ∙ dual _ _ c.if-kind-eq1.false c.if-kind-eq2.true) c.number-then-kind-eq2.ensures

pub returns : goal.returns
returns c = done_on (Err NotCircuit) (no_kind _ _ c.if-kind-eq1.false c.if-kind-eq2.false) c.number_of.ensures
