use Rattle.std.proofs.Common.{ap, not}
use Rattle.reading.specs.Calls.{constant_call}
use Rattle.read.proofs.Lists.{good_id}
use Rattle.layout.proofs.Refusals.{refuses, accepts, refusal_none, reading_no_circuit, reading_bad_id, reading_accepted, bad_id_here}
use Rattle.layout.proofs.Valid.{valid_length, valid_fits}
use mathlib.Core.List.{[], ◌∷◌}
use mathlib.Core.Path.{sym}
use Rattle.read.proofs.constants.constant_test.Goals as goal

pub returns-then-not-is_circuit : goal.returns-then-not-is_circuit
unfolding constant_call
returns-then-not-is_circuit c = sym (reading_no_circuit c.args.m.now (c.args.i ∷ []) [] _ _ (refuses _ _ c.is_circuit.ensures (ap not c.if-not-is_circuit.true)))

pub bounds-m-1 : goal.bounds-m-1
bounds-m-1 c = valid_length _ (accepts _ _ c.is_circuit.ensures (ap not c.if-not-is_circuit.false))

pub returns-then-m-i : goal.returns-then-m-i
unfolding constant_call
returns-then-m-i c = sym (reading_bad_id c.args.m.now (c.args.i ∷ []) [] _ _ (accepts _ _ c.is_circuit.ensures (ap not c.if-not-is_circuit.false)) (bad_id_here c.args.m.now _ _ c.if-m-i.true))

pub is_constant-requires : goal.is_constant-requires
is_constant-requires c = valid_fits _ (accepts _ _ c.is_circuit.ensures (ap not c.if-not-is_circuit.false)) _ c.if-m-i.false

pub returns : goal.returns
unfolding constant_call
returns c = rw c.is_constant.ensures (sym (reading_accepted c.args.m.now (c.args.i ∷ []) [] _ _ (accepts _ _ c.is_circuit.ensures (ap not c.if-not-is_circuit.false)) (good_id _ _ c.if-m-i.false) refusal_none))
