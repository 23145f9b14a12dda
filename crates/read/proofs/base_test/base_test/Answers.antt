use Rattle.std.proofs.Common.{ap, not}
use Rattle.read.proofs.Lists.{good_id}
use Rattle.read.proofs.Bases.{bit_test}
use Rattle.read.proofs.Tables.{sorted_ranked}
use Rattle.reading.specs.Calls.{base_test_call}
use Rattle.paths.proofs.Counts.{valid_top}
use Rattle.layout.proofs.Refusals.{refuses, accepts, refusal_none, reading_no_circuit, reading_bad_id, reading_accepted, bad_id_here}
use Rattle.layout.proofs.Valid.{valid_length}
use native.Mathlib.Omega.{arith}
use mathlib.Core.List.{[], ◌∷◌}
use mathlib.Core.Path.{sym}
use borrow.Author.Rules.{rules}
use Rattle.read.proofs.base_test.base_test.Goals as goal

pub returns-then-not-check : goal.returns-then-not-check
unfolding base_test_call
returns-then-not-check c = sym (reading_no_circuit c.args.m.now (c.args.i ∷ []) [] _ _ (refuses _ _ c.check.ensures.told (ap not c.if-not-check.true)))

pub bounds-m-1 : goal.bounds-m-1
bounds-m-1 c = valid_length _ (accepts _ _ c.check.ensures.told (ap not c.if-not-check.false))

pub returns-then-m-i : goal.returns-then-m-i
unfolding base_test_call
returns-then-m-i c = sym (reading_bad_id c.args.m.now (c.args.i ∷ []) [] _ _ (accepts _ _ c.check.ensures.told (ap not c.if-not-check.false)) (bad_id_here c.args.m.now _ _ c.if-m-i.true))

pub bases-requires : goal.bases-requires
bases-requires c = let v = accepts _ _ c.check.ensures.told (ap not c.if-not-check.false) in
    record { ranked = sorted_ranked _ _ _ v (c.check.ensures.sorted c.if-not-check.false); room = omega (arith, valid_top _ v) }

pub offset_bounds-table-node : goal.offset_bounds-table-node
offset_bounds-table-node c = let t = valid_top _ (accepts _ _ c.check.ensures.told (ap not c.if-not-check.false)) in search rules

pub bounds-table-node : goal.bounds-table-node
bounds-table-node c = let t = valid_top _ (accepts _ _ c.check.ensures.told (ap not c.if-not-check.false)) in omega (arith, c.bases.auto.table)

pub returns : goal.returns
unfolding base_test_call
returns c = let v = accepts _ _ c.check.ensures.told (ap not c.if-not-check.false) in
    rw (bit_test _ _ _ (c.bases.ensures.told _ c.if-m-i.false)) (sym (reading_accepted c.args.m.now (c.args.i ∷ []) [] _ _ v (good_id _ _ c.if-m-i.false) refusal_none))
