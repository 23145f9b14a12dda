use Rattle.std.proofs.Common.{ap, not}
use Prim.Native.Nat.{◌≤◌}
use native.Mathlib.Omega.{arith}
use lib.ListN.{length}
use Rattle.layout.proofs.Refusals.{refuses, accepts, bad_id_here}
use Rattle.layout.proofs.Valid.{valid_length}
use Rattle.paths.proofs.Counts.{valid_top}
use Rattle.paths.proofs.Gathers.{gathered_few}
use Rattle.paths.proofs.Calls.{one_good, counts_no_circuit, counts_bad_id, counts_no_room, counts_done}
use borrow.Author.Rules.{rules}
use Rattle.paths.proofs.references.distinct_counts.Goals as goal

pub returns-then-not-check : goal.returns-then-not-check
returns-then-not-check c = counts_no_circuit _ _ _ (refuses _ _ c.check.ensures.told (ap not c.if-not-check.true))

pub bounds-m-1 : goal.bounds-m-1
bounds-m-1 c = valid_length _ (accepts _ _ c.check.ensures.told (ap not c.if-not-check.false))

pub returns-then-m-i : goal.returns-then-m-i
returns-then-m-i c = counts_bad_id _ _ _ (accepts _ _ c.check.ensures.told (ap not c.if-not-check.false)) (bad_id_here _ _ _ c.if-m-i.true)

pub count_paths-requires : goal.count_paths-requires
count_paths-requires c = record {
  valid = accepts _ _ c.check.ensures.told (ap not c.if-not-check.false);
  sorted = c.check.ensures.sorted c.if-not-check.false;
  order_room = search rules;
  ids = one_good _ _ c.if-m-i.false;
  room = search rules;
}

pub gather-found-requires : goal.gather-found-requires
gather-found-requires c = record { valid = accepts _ _ c.check.ensures.told (ap not c.if-not-check.false); room = search rules; words_room = search rules }

pub returns-then-list-found : goal.returns-then-list-found
returns-then-list-found c = counts_no_room _ _ _ (accepts _ _ c.check.ensures.told (ap not c.if-not-check.false)) c.if-m-i.false _ c.count_paths.ensures _ _ c.gather-found.ensures c.if-list-found.true

pub copy_words-requires : goal.copy_words-requires
copy_words-requires c = let t = valid_top _ (accepts _ _ c.check.ensures.told (ap not c.if-not-check.false)) in
    let g = gathered_few _ _ _ _ _ c.gather-found.ensures in
    let r : 4096 ≤ length c.gather-found.new.words = search rules in
    (omega arith, c.if-list-found.false)

pub returns : goal.returns
returns c = counts_done _ _ _ (accepts _ _ c.check.ensures.told (ap not c.if-not-check.false)) c.if-m-i.false _ c.count_paths.ensures _ _ c.gather-found.ensures c.if-list-found.false _ c.copy_words.ensures
