use Rattle.std.proofs.Common.{not}
use mathlib.Core.Path.{refl, sym, ap, ◌∙◌}
use Rattle.layout.specs.NotCircuit.{bad_index}
use Rattle.layout.proofs.Refusals.{refuses, refusal_here, refusal_next}
use Rattle.layout.proofs.Valid.{valid_length}
use Rattle.building.specs.Calls.{input_call}
use Rattle.build_calls.proofs.Endings.{no_circuit, refuses_by, only_full, checked}
use Rattle.build_calls.proofs.calls.input.Goals as goal

pub returns-then-not-check : goal.returns-then-not-check
unfolding input_call
returns-then-not-check c = sym (no_circuit _ _ _ (refuses _ _ c.check.ensures.told (ap not c.if-not-check.true)))

pub bad_row-requires : goal.bad_row-requires
bad_row-requires c = valid_length _ (checked _ _ _ _ c.check.ensures (ap not c.if-not-check.false))

pub returns-then-bad_row : goal.returns-then-bad_row
unfolding input_call
returns-then-bad_row c = sym (refuses_by _ _ _ 2 (checked _ _ _ _ c.check.ensures (ap not c.if-not-check.false)) (refusal_here 3 _ _ (sym c.bad_row.ensures ∙ c.if-bad_row.true)))

pub returns-then-bad_index : goal.returns-then-bad_index
unfolding input_call
returns-then-bad_index c = sym (refuses_by _ _ _ 3 (checked _ _ _ _ c.check.ensures (ap not c.if-not-check.false)) (refusal_next 3 _ _ (sym c.bad_row.ensures ∙ c.if-bad_row.false) ∙ refusal_here 4 _ _ (ap bad_index (sym c.column_of.ensures) ∙ sym c.bad_index.ensures ∙ c.if-bad_index.true)))

pub leaf-requires : goal.leaf-requires
leaf-requires c = record { circuit = checked _ _ _ _ c.check.ensures (ap not c.if-not-check.false); leaf = refl }

pub returns : goal.returns
unfolding input_call
returns c = c.leaf.ensures ∙ sym (only_full _ _ _ (checked _ _ _ _ c.check.ensures (ap not c.if-not-check.false)) (refusal_next 3 _ _ (sym c.bad_row.ensures ∙ c.if-bad_row.false) ∙ refusal_next 4 _ _ (ap bad_index (sym c.column_of.ensures) ∙ sym c.bad_index.ensures ∙ c.if-bad_index.false)))
