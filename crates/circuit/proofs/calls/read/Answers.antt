use Rattle.std.proofs.Common.{ap, not}
use mathlib.Core.Path.{sym, ◌∙◌}
use mathlib.Core.List.{[], ◌∷◌}
use Rattle.layout.specs.Calls.{read_call}
use Rattle.layout.proofs.Valid.{valid_length, valid_fits}
use Rattle.layout.proofs.Refusals.{refuses, accepts, refusal_none, reading_no_circuit, reading_bad_id, reading_accepted, no_bad_id, bad_id_here, bad_id_next}
use Rattle.circuit.proofs.calls.read.Goals as goal

pub returns-then-not-is_circuit : goal.returns-then-not-is_circuit
unfolding read_call
returns-then-not-is_circuit c = sym (reading_no_circuit c.args.m.now (c.args.i ∷ []) [] _ _ (refuses _ _ c.is_circuit.ensures (ap not c.if-not-is_circuit.true)))

pub bounds-m-1 : goal.bounds-m-1
bounds-m-1 c = valid_length _ (accepts _ _ c.is_circuit.ensures (ap not c.if-not-is_circuit.false))

pub returns-then-m-i : goal.returns-then-m-i
unfolding read_call
returns-then-m-i c = sym (reading_bad_id c.args.m.now (c.args.i ∷ []) [] _ _ (accepts _ _ c.is_circuit.ensures (ap not c.if-not-is_circuit.false)) (bad_id_here c.args.m.now _ _ c.if-m-i.true))

pub node_at-requires : goal.node_at-requires
node_at-requires c = valid_fits _ (accepts _ _ c.is_circuit.ensures (ap not c.if-not-is_circuit.false)) _ c.if-m-i.false

pub returns : goal.returns
unfolding read_call
returns c = rw c.node_at.ensures (sym (reading_accepted c.args.m.now (c.args.i ∷ []) [] _ _ (accepts _ _ c.is_circuit.ensures (ap not c.if-not-is_circuit.false)) (bad_id_next c.args.m.now _ _ c.if-m-i.false ∙ no_bad_id c.args.m.now) refusal_none))
