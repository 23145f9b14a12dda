use Rattle.std.proofs.Common.{not}
use mathlib.Core.Path.{ap, ◌∙◌}
use Rattle.std.specs.Prelude.{Err}
use Rattle.layout.specs.declared.refusal.Refusal.TheVariants.{NotCircuit, BadRow}
use Rattle.layout.proofs.Refusals.{refuses, accepts}
use Rattle.building.specs.Calls.{input_call}
use Rattle.abi.proofs.Passing.{number_on, known_row, no_circuit, no_row}
use Rattle.abi.proofs.leaves.atz_input.Goals as goal

pub returns-then-row-lt4 : goal.returns-then-row-lt4
returns-then-row-lt4 c = number_on _ (c.input.ensures ∙ ap (input_call _) c.position.ensures ∙ known_row _ _ _ c.if-row-lt4.true) c.number.ensures

pub returns-then-not-is_circuit : goal.returns-then-not-is_circuit
returns-then-not-is_circuit c = number_on (Err NotCircuit) (no_circuit _ _ _ c.if-row-lt4.false (refuses _ _ c.is_circuit.ensures (ap not c.if-not-is_circuit.true))) c.number-then-not-is_circuit.ensures

pub returns : goal.returns
returns c = number_on (Err BadRow) (no_row _ _ _ c.if-row-lt4.false (accepts _ _ c.is_circuit.ensures (ap not c.if-not-is_circuit.false))) c.number-2.ensures
