use Rattle.std.proofs.Common.{ap, not}
use mathlib.Core.Path.{sym, ◌∙◌}
use native.Mathlib.Omega.{arith}
use borrow.Author.Tests.{eq-eqb, ne_eqb}
use Rattle.layout.proofs.Refusals.{refuses, refusal_here, refusal_next}
use Rattle.layout.proofs.Valid.{valid_length}
use Rattle.building.specs.Calls.{sum_call}
use Rattle.build_calls.proofs.Endings.{no_circuit, refuses_by, only_full, checked, ranked}
use borrow.Author.Rules.{rules}
use Rattle.build_calls.proofs.calls.sum.Goals as goal

pub returns-then-not-check : goal.returns-then-not-check
unfolding sum_call
returns-then-not-check c = sym (no_circuit _ _ _ (refuses _ _ c.check.ensures.told (ap not c.if-not-check.true)))

pub bad_id-requires : goal.bad_id-requires
bad_id-requires c = valid_length _ (checked _ _ _ _ c.check.ensures (ap not c.if-not-check.false))

pub returns-then-bad_id : goal.returns-then-bad_id
unfolding sum_call
returns-then-bad_id c = sym (refuses_by _ _ _ 1 (checked _ _ _ _ c.check.ensures (ap not c.if-not-check.false)) (refusal_here 2 _ _ (sym c.bad_id.ensures ∙ c.if-bad_id.true)))

pub returns-then-ids-eq0 : goal.returns-then-ids-eq0
unfolding sum_call
returns-then-ids-eq0 c = sym (refuses_by _ _ _ 6 (checked _ _ _ _ c.check.ensures (ap not c.if-not-check.false)) (refusal_next 2 _ _ (sym c.bad_id.ensures ∙ c.if-bad_id.false) ∙ refusal_here 7 _ _ (eq-eqb _ _ c.if-ids-eq0.true)))

pub granted_sum-requires : goal.granted_sum-requires
granted_sum-requires c = record { ranked = ranked _ _ _ _ c.check.ensures (ap not c.if-not-check.false) (search rules); some = omega arith; below = sym c.bad_id.ensures ∙ c.if-bad_id.false }

pub returns : goal.returns
unfolding sum_call
returns c = c.granted_sum.ensures ∙ sym (only_full _ _ _ (checked _ _ _ _ c.check.ensures (ap not c.if-not-check.false)) (refusal_next 2 _ _ (sym c.bad_id.ensures ∙ c.if-bad_id.false) ∙ refusal_next 7 _ _ (ne_eqb _ _ c.if-ids-eq0.false)))
