use Rattle.std.proofs.Common.{ap, not}
use Rattle.layout.proofs.Refusals.{refusal_here, refusal_next, refusal_none, refuses, accepts}
use mathlib.Core.Path.{sym, ◌∙◌}
use Rattle.abi.proofs.circuits.atz_is_circuit.Goals as goal

pub returns-then-not-is_circuit : goal.returns-then-not-is_circuit
returns-then-not-is_circuit c = c.number_of.ensures ∙ sym (refusal_here 1 _ _ (refuses _ _ c.is_circuit.ensures (ap not c.if-not-is_circuit.true)))

pub returns : goal.returns
returns c = sym (refusal_next 1 _ _ (accepts _ _ c.is_circuit.ensures (ap not c.if-not-is_circuit.false)) ∙ refusal_none)
