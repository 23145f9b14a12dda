use Rattle.std.proofs.Common.{ap, not}
use mathlib.Core.Path.{sym, ◌∙◌}
use native.Mathlib.Omega.{arith}
use Rattle.layout.proofs.Refusals.{refuses, accepts}
use Rattle.layout.proofs.Valid.{valid_length}
use Rattle.paths.proofs.Calls.{walk_no_circuit, walk_bad_id, walk_no_list, walk_no_stack, walk_fits, walk_done}
use borrow.Author.Rules.{rules}
use Rattle.paths.proofs.walk.walk.Goals as goal

pub returns-then-not-check : goal.returns-then-not-check
returns-then-not-check c = walk_no_circuit _ _ _ _ (refuses _ _ c.check.ensures.told (ap not c.if-not-check.true))

pub bad_id-requires : goal.bad_id-requires
bad_id-requires c = valid_length _ (accepts _ _ c.check.ensures.told (ap not c.if-not-check.false))

pub returns-then-bad_id : goal.returns-then-bad_id
returns-then-bad_id c = walk_bad_id _ _ _ _ (accepts _ _ c.check.ensures.told (ap not c.if-not-check.false)) (sym c.bad_id.ensures ∙ c.if-bad_id.true)

pub walk_length-requires : goal.walk_length-requires
walk_length-requires c = record {
  valid = accepts _ _ c.check.ensures.told (ap not c.if-not-check.false);
  sorted = c.check.ensures.sorted c.if-not-check.false;
  order_room = search rules;
  ids = sym c.bad_id.ensures ∙ c.if-bad_id.false;
  small = search rules;
}

pub returns-then-room-walk_length : goal.returns-then-room-walk_length
returns-then-room-walk_length c = walk_no_list _ _ _ _ (accepts _ _ c.check.ensures.told (ap not c.if-not-check.false)) (sym c.bad_id.ensures ∙ c.if-bad_id.false) _ c.walk_length.ensures c.if-room-walk_length.true

pub bounds-m-1 : goal.bounds-m-1
bounds-m-1 c = valid_length _ (accepts _ _ c.check.ensures.told (ap not c.if-not-check.false))

pub returns-then-stack-n : goal.returns-then-stack-n
returns-then-stack-n c = walk_no_stack _ _ _ _ (accepts _ _ c.check.ensures.told (ap not c.if-not-check.false)) (sym c.bad_id.ensures ∙ c.if-bad_id.false) c.if-stack-n.true

pub walk_roots-found-requires : goal.walk_roots-found-requires
walk_roots-found-requires c = let v = accepts _ _ c.check.ensures.told (ap not c.if-not-check.false) in
    let i = sym c.bad_id.ensures ∙ c.if-bad_id.false in
    record { valid = v; ids = i; stack_room = c.if-stack-n.false; list_room = walk_fits _ _ _ c.walk_length.ensures c.if-room-walk_length.false }

pub clear-requires : goal.clear-requires
clear-requires c = omega (arith, c.if-stack-n.false, c.walk_roots-found.auto.stack)

pub returns : goal.returns
returns c = let v = accepts _ _ c.check.ensures.told (ap not c.if-not-check.false) in
    let i = sym c.bad_id.ensures ∙ c.if-bad_id.false in
    walk_done _ _ _ _ v i _ _ _ _ (walk_fits _ _ _ c.walk_length.ensures c.if-room-walk_length.false) c.if-stack-n.false c.walk_roots-found.ensures c.clear.ensures
