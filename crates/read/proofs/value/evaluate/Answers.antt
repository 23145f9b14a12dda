use Rattle.std.proofs.Common.{ap, not}
use Rattle.read.proofs.Lists.{good_id}
use Rattle.read.proofs.Tables.{sorted_ranked}
use Rattle.reading.specs.Calls.{evaluate_call}
use Rattle.paths.proofs.Counts.{valid_top}
use Rattle.layout.proofs.Refusals.{refuses, accepts, refusal_none, refusal_here, refusal_next, reading_no_circuit, reading_bad_id, reading_refused, reading_accepted, bad_id_here}
use Rattle.layout.proofs.Valid.{valid_length}
use native.Mathlib.Omega.{arith}
use mathlib.Core.List.{[], ◌∷◌}
use mathlib.Core.Path.{sym, ◌∙◌}
use Rattle.read.proofs.value.evaluate.Goals as goal

pub returns-then-not-check : goal.returns-then-not-check
unfolding evaluate_call
returns-then-not-check c = sym (reading_no_circuit c.args.m.now (c.args.i ∷ []) _ _ _ (refuses _ _ c.check.ensures.told (ap not c.if-not-check.true)))

pub bounds-m-1 : goal.bounds-m-1
bounds-m-1 c = valid_length _ (accepts _ _ c.check.ensures.told (ap not c.if-not-check.false))

pub returns-then-m-i : goal.returns-then-m-i
unfolding evaluate_call
returns-then-m-i c = sym (reading_bad_id c.args.m.now (c.args.i ∷ []) _ _ _ (accepts _ _ c.check.ensures.told (ap not c.if-not-check.false)) (bad_id_here c.args.m.now _ _ c.if-m-i.true))

pub count_paths-requires : goal.count_paths-requires
count_paths-requires c = record { valid = accepts _ _ c.check.ensures.told (ap not c.if-not-check.false); sorted = c.check.ensures.sorted c.if-not-check.false; order_room = omega (arith, c.check.auto.order); ids = good_id _ _ c.if-m-i.false; room = omega arith }

pub bad_table-requires : goal.bad_table-requires
bad_table-requires c = let v = accepts _ _ c.check.ensures.told (ap not c.if-not-check.false) in
    record { valid = v; room = omega (arith, valid_top _ v, c.count_paths.auto.counts); ids = good_id _ _ c.if-m-i.false; counted = c.count_paths.ensures }

pub returns-then-bad_table : goal.returns-then-bad_table
unfolding evaluate_call
returns-then-bad_table c = sym (reading_refused c.args.m.now (c.args.i ∷ []) _ _ _ 14 (accepts _ _ c.check.ensures.told (ap not c.if-not-check.false)) (good_id _ _ c.if-m-i.false) (refusal_here 15 _ _ (sym c.bad_table.ensures ∙ c.if-bad_table.true)))

pub returns-then-bad_given : goal.returns-then-bad_given
unfolding evaluate_call
returns-then-bad_given c = sym (reading_refused c.args.m.now (c.args.i ∷ []) _ _ _ 4 (accepts _ _ c.check.ensures.told (ap not c.if-not-check.false)) (good_id _ _ c.if-m-i.false) (refusal_next 15 _ _ (sym c.bad_table.ensures ∙ c.if-bad_table.false) ∙ refusal_here 5 _ _ (sym c.bad_given.ensures ∙ c.if-bad_given.true)))

pub value_at-requires : goal.value_at-requires
value_at-requires c = let v = accepts _ _ c.check.ensures.told (ap not c.if-not-check.false) in
    record { ranked = sorted_ranked _ _ _ v (c.check.ensures.sorted c.if-not-check.false); counts_room = omega (arith, valid_top _ v, c.count_paths.auto.counts); here = c.if-m-i.false }

pub returns : goal.returns
unfolding evaluate_call
returns c = rw c.value_at.ensures (sym (reading_accepted c.args.m.now (c.args.i ∷ []) _ _ _ (accepts _ _ c.check.ensures.told (ap not c.if-not-check.false)) (good_id _ _ c.if-m-i.false) (refusal_next 15 _ _ (sym c.bad_table.ensures ∙ c.if-bad_table.false) ∙ refusal_next 5 _ _ (sym c.bad_given.ensures ∙ c.if-bad_given.false) ∙ refusal_none)))
