use Rattle.std.proofs.Common.{ap, not}
use mathlib.Core.Path.{sym, ◌∙◌}
use Rattle.layout.proofs.Refusals.{refuses, refusal_here, refusal_next}
use Rattle.building.specs.Calls.{extension_call}
use Rattle.build_calls.proofs.Endings.{no_circuit, refuses_by, only_full, checked}
use Rattle.build_calls.proofs.Wording.{constant_leaf}
use Rattle.build_calls.proofs.calls.extension_constant.Goals as goal

pub returns-then-not-check : goal.returns-then-not-check
unfolding extension_call
returns-then-not-check c = sym (no_circuit _ _ _ (refuses _ _ c.check.ensures.told (ap not c.if-not-check.true)))

pub returns-then-bad_words : goal.returns-then-bad_words
unfolding extension_call
returns-then-bad_words c = sym (refuses_by _ _ _ 4 (checked _ _ _ _ c.check.ensures (ap not c.if-not-check.false)) (refusal_here 5 _ _ (sym c.bad_words.ensures ∙ c.if-bad_words.true)))

pub leaf-requires : goal.leaf-requires
leaf-requires c = record { circuit = checked _ _ _ _ c.check.ensures (ap not c.if-not-check.false); leaf = rw c.constant.ensures (constant_leaf _) }

pub returns : goal.returns
unfolding extension_call
returns c = rw c.constant.ensures at c.leaf.ensures ∙ sym (only_full _ _ _ (checked _ _ _ _ c.check.ensures (ap not c.if-not-check.false)) (refusal_next 5 _ _ (sym c.bad_words.ensures ∙ c.if-bad_words.false)))
