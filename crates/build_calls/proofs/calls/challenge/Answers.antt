use Rattle.std.proofs.Common.{ap, not}
use mathlib.Core.Path.{refl, sym, ◌∙◌}
use Rattle.layout.proofs.Refusals.{refuses, refusal_here, refusal_next}
use Rattle.building.specs.Calls.{challenge_call}
use Rattle.build_calls.proofs.Endings.{no_circuit, refuses_by, only_full, checked}
use Rattle.build_calls.proofs.calls.challenge.Goals as goal

pub returns-then-not-check : goal.returns-then-not-check
unfolding challenge_call
returns-then-not-check c = sym (no_circuit _ _ _ (refuses _ _ c.check.ensures.told (ap not c.if-not-check.true)))

pub returns-then-bad_index : goal.returns-then-bad_index
unfolding challenge_call
returns-then-bad_index c = sym (refuses_by _ _ _ 3 (checked _ _ _ _ c.check.ensures (ap not c.if-not-check.false)) (refusal_here 4 _ _ (sym c.bad_index.ensures ∙ c.if-bad_index.true)))

pub leaf-requires : goal.leaf-requires
leaf-requires c = record { circuit = checked _ _ _ _ c.check.ensures (ap not c.if-not-check.false); leaf = refl }

pub returns : goal.returns
unfolding challenge_call
returns c = c.leaf.ensures ∙ sym (only_full _ _ _ (checked _ _ _ _ c.check.ensures (ap not c.if-not-check.false)) (refusal_next 4 _ _ (sym c.bad_index.ensures ∙ c.if-bad_index.false)))
