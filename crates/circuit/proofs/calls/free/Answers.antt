use Rattle.std.proofs.Common.{ap, not}
use mathlib.Core.Path.{sym}
use mathlib.Core.List.{[]}
use native.Mathlib.Omega.{arith}
use Rattle.layout.specs.Calls.{free_call}
use Rattle.layout.proofs.Valid.{valid_length, valid_room}
use Rattle.layout.proofs.Refusals.{refuses, accepts, refusal_none, reading_no_circuit, reading_accepted, no_bad_id}
use Rattle.circuit.proofs.calls.free.Goals as goal

pub returns-then-not-is_circuit : goal.returns-then-not-is_circuit
unfolding free_call
returns-then-not-is_circuit c = sym (reading_no_circuit c.args.m.now [] [] _ _ (refuses _ _ c.is_circuit.ensures (ap not c.if-not-is_circuit.true)))

pub bounds-m-1 : goal.bounds-m-1
bounds-m-1 c = valid_length _ (accepts _ _ c.is_circuit.ensures (ap not c.if-not-is_circuit.false))

pub overflow_sub-result : goal.overflow_sub-result
overflow_sub-result c = let r = valid_room c.args.m.now (accepts _ _ c.is_circuit.ensures (ap not c.if-not-is_circuit.false)) in let l = c.limit_of.ensures in omega arith

pub returns : goal.returns
unfolding free_call
returns c = rw c.limit_of.ensures (sym (reading_accepted c.args.m.now [] [] _ _ (accepts _ _ c.is_circuit.ensures (ap not c.if-not-is_circuit.false)) (no_bad_id c.args.m.now) refusal_none))
