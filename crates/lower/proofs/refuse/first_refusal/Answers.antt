use Rattle.lower.proofs.Refuses.{circuit_yes, circuit_no}
use mathlib.Core.Path.{sym, ◌∙◌}
use borrow.Author.Tests.{lt-ltb, le-ltb}
use Rattle.layout.proofs.Valid.{valid_length}
use Rattle.layout.specs.Outcomes.{refusal}
use Rattle.lower.specs.Refusing.{first_refusal}
use Rattle.lower.proofs.refuse.first_refusal.Goals as goal

pub returns-then-not-is_circuit : goal.returns-then-not-is_circuit
unfolding first_refusal refusal
returns-then-not-is_circuit c = rw (circuit_no c.args.m.now _ c.is_circuit.ensures c.if-not-is_circuit.true)

pub returns-then-target-lt2 : goal.returns-then-target-lt2
unfolding first_refusal refusal
returns-then-target-lt2 c = rw (circuit_yes c.args.m.now _ c.is_circuit.ensures c.if-not-is_circuit.false, lt-ltb c.args.target 2 c.if-target-lt2.true)

pub bad_id-requires : goal.bad_id-requires
bad_id-requires c = valid_length _ (circuit_yes c.args.m.now _ c.is_circuit.ensures c.if-not-is_circuit.false)

pub returns-then-bad_id : goal.returns-then-bad_id
unfolding first_refusal refusal
returns-then-bad_id c = rw (circuit_yes c.args.m.now _ c.is_circuit.ensures c.if-not-is_circuit.false, le-ltb c.args.target 2 c.if-target-lt2.false, sym c.bad_id.ensures ∙ c.if-bad_id.true)

pub over_degree-requires : goal.over_degree-requires
over_degree-requires c = (circuit_yes c.args.m.now _ c.is_circuit.ensures c.if-not-is_circuit.false, sym c.bad_id.ensures ∙ c.if-bad_id.false)

pub returns-then-over_degree : goal.returns-then-over_degree
unfolding first_refusal refusal
returns-then-over_degree c = rw (circuit_yes c.args.m.now _ c.is_circuit.ensures c.if-not-is_circuit.false, le-ltb c.args.target 2 c.if-target-lt2.false, sym c.bad_id.ensures ∙ c.if-bad_id.false, sym c.over_degree.ensures ∙ c.if-over_degree.true)

pub returns : goal.returns
unfolding first_refusal refusal
returns c = rw (circuit_yes c.args.m.now _ c.is_circuit.ensures c.if-not-is_circuit.false, le-ltb c.args.target 2 c.if-target-lt2.false, sym c.bad_id.ensures ∙ c.if-bad_id.false, sym c.over_degree.ensures ∙ c.if-over_degree.false)
