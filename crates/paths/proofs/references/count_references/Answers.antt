use Rattle.std.proofs.Common.{ap, not}
use Prim.Native.Nat.{◌≤◌}
use lib.ListN.{length}
use mathlib.Core.Path.{sym, ◌∙◌}
use native.Mathlib.Omega.{arith}
use Rattle.layout.proofs.Refusals.{refuses, accepts}
use Rattle.layout.proofs.Valid.{valid_length}
use Rattle.paths.proofs.Walks.{roots_below}
use Rattle.paths.proofs.Counts.{valid_top}
use Rattle.paths.proofs.Calls.{count_no_circuit, count_bad_id, count_repeat, count_over, count_done}
use borrow.Author.Rules.{rules}
use Rattle.paths.proofs.references.count_references.Goals as goal

pub returns-then-not-check : goal.returns-then-not-check
returns-then-not-check c = count_no_circuit _ _ (refuses _ _ c.check.ensures.told (ap not c.if-not-check.true))

pub bad_id-requires : goal.bad_id-requires
bad_id-requires c = valid_length _ (accepts _ _ c.check.ensures.told (ap not c.if-not-check.false))

pub returns-then-bad_id : goal.returns-then-bad_id
returns-then-bad_id c = count_bad_id _ _ (accepts _ _ c.check.ensures.told (ap not c.if-not-check.false)) (sym c.bad_id.ensures ∙ c.if-bad_id.true)

pub count_paths-requires : goal.count_paths-requires
count_paths-requires c = record {
  valid = accepts _ _ c.check.ensures.told (ap not c.if-not-check.false);
  sorted = c.check.ensures.sorted c.if-not-check.false;
  order_room = search rules;
  ids = sym c.bad_id.ensures ∙ c.if-bad_id.false;
  room = search rules;
}

pub any_repeated-requires : goal.any_repeated-requires
any_repeated-requires c = λ k l.
    let b = roots_below _ _ (sym c.bad_id.ensures ∙ c.if-bad_id.false) k l in
    let t = valid_top _ (accepts _ _ c.check.ensures.told (ap not c.if-not-check.false)) in
    let r : 4096 ≤ length c.count_paths.new.counts = search rules in
    omega arith

pub returns-then-any_repeated : goal.returns-then-any_repeated
returns-then-any_repeated c = let v = accepts _ _ c.check.ensures.told (ap not c.if-not-check.false) in
    let i = sym c.bad_id.ensures ∙ c.if-bad_id.false in
    count_repeat _ _ v i _ c.count_paths.ensures (sym c.any_repeated.ensures ∙ c.if-any_repeated.true)

pub bounds-m-1 : goal.bounds-m-1
bounds-m-1 c = valid_length _ (accepts _ _ c.check.ensures.told (ap not c.if-not-check.false))

pub any_over-requires : goal.any_over-requires
any_over-requires c = let t = valid_top _ (accepts _ _ c.check.ensures.told (ap not c.if-not-check.false)) in
    let r : 4096 ≤ length c.count_paths.new.counts = search rules in
    omega arith

pub returns-then-any_over : goal.returns-then-any_over
returns-then-any_over c = let v = accepts _ _ c.check.ensures.told (ap not c.if-not-check.false) in
    let i = sym c.bad_id.ensures ∙ c.if-bad_id.false in
    count_over _ _ v i _ c.count_paths.ensures (sym c.any_repeated.ensures ∙ c.if-any_repeated.false) (sym c.any_over.ensures ∙ c.if-any_over.true)

pub put_counts-requires : goal.put_counts-requires
put_counts-requires c = record { valid = accepts _ _ c.check.ensures.told (ap not c.if-not-check.false); room = search rules }

pub returns : goal.returns
returns c = let v = accepts _ _ c.check.ensures.told (ap not c.if-not-check.false) in
    let i = sym c.bad_id.ensures ∙ c.if-bad_id.false in
    count_done _ _ v i _ c.count_paths.ensures (sym c.any_repeated.ensures ∙ c.if-any_repeated.false) (sym c.any_over.ensures ∙ c.if-any_over.false) _ c.put_counts.ensures
