use Rattle.std.proofs.Common.{ap, not}
use mathlib.Core.Path.{sym, ◌∙◌}
use Rattle.layout.proofs.Refusals.{refuses, refusal_here, refusal_next, bad_id_here, bad_id_next, no_bad_id}
use Rattle.layout.proofs.Valid.{valid_length}
use Rattle.build_calls.proofs.Endings.{no_circuit, refuses_by, only_full, checked, ranked}
use borrow.Author.Rules.{rules}
use Rattle.build_calls.proofs.calls.on_nodes.Goals as goal

pub returns-then-not-check : goal.returns-then-not-check
returns-then-not-check c = sym (no_circuit _ _ _ (refuses _ _ c.check.ensures.told (ap not c.if-not-check.true)))

pub bounds-m-1 : goal.bounds-m-1
bounds-m-1 c = valid_length _ (checked _ _ _ _ c.check.ensures (ap not c.if-not-check.false))

pub returns-then-m-a : goal.returns-then-m-a
returns-then-m-a c = sym (refuses_by _ _ _ 1 (checked _ _ _ _ c.check.ensures (ap not c.if-not-check.false)) (refusal_here 2 _ _ (bad_id_here c.args.m.now _ _ c.if-m-a.true)))

pub bounds-m-1-2 : goal.bounds-m-1-2
bounds-m-1-2 c = valid_length _ (checked _ _ _ _ c.check.ensures (ap not c.if-not-check.false))

pub returns-then-m-b : goal.returns-then-m-b
returns-then-m-b c = sym (refuses_by _ _ _ 1 (checked _ _ _ _ c.check.ensures (ap not c.if-not-check.false)) (refusal_here 2 _ _ (bad_id_next c.args.m.now _ _ c.if-m-a.false ∙ bad_id_here c.args.m.now _ _ c.if-m-b.true)))

pub granted-requires : goal.granted-requires
granted-requires c = record { ranked = ranked c.args.m.now _ _ _ c.check.ensures (ap not c.if-not-check.false) (search rules); good = c.requires c.args.m.now c.if-m-a.false c.if-m-b.false }

pub returns : goal.returns
returns c = c.granted.ensures ∙ sym (only_full _ _ _ (checked _ _ _ _ c.check.ensures (ap not c.if-not-check.false)) (refusal_next 2 _ _ (bad_id_next c.args.m.now _ _ c.if-m-a.false ∙ bad_id_next c.args.m.now _ _ c.if-m-b.false ∙ no_bad_id c.args.m.now)))
