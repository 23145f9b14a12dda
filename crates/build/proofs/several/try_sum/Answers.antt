use native.Mathlib.Omega.{arith}
use lib.ListN.{length}
use Rattle.std.proofs.lemmas.List.Edits.{length-between}
use Rattle.layout.proofs.Valid.{valid_room}
use Rattle.build.proofs.Stepping.{told_at, told_full}
use Rattle.build.proofs.Runs.{later_below, later_id, sum_start, sum_end, sum_operable, sum_next, sum_stops}
use Rattle.build.proofs.several.try_sum.Goals as goal

pub loop-id-init : goal.loop-id-init
loop-id-init c = sum_start _ _ _ _ _ c.requires (valid_room _ c.requires.buildable.circuit)

pub operate-requires : goal.operate-requires
operate-requires c = let l = c.loop-id-test.true in
    rw (later_id c.args.ids.now _ l) (sum_operable _ _ _ _ _ c.requires _ _ _ _ _ _ c.loop-id.invariant (later_below _ _ l))

pub returns-in_err-i : goal.returns-in_err-i
returns-in_err-i c = let l = c.loop-id-test.true in
    rw c.from_residual.ensures (sum_stops _ _ _ _ _ c.requires _ _ _ _ _ _ c.loop-id.invariant (later_below _ _ l) _ _ _ _ (rw (later_id c.args.ids.now _ l) at (told_full c.operate.ensures c.in_err-i.was)))

pub loop-id-preserved : goal.loop-id-preserved
loop-id-preserved c = let l = c.loop-id-test.true in
    sum_next _ _ _ _ _ c.requires _ _ _ _ _ _ c.loop-id.invariant (later_below _ _ l) _ _ _ _ _ (rw (later_id c.args.ids.now _ l) at (told_at c.operate.ensures _ c.in_ok-i.was))

pub returns : goal.returns
returns c = sum_end _ _ _ _ _ c.requires _ _ _ _ _ _ c.loop-id.invariant (let l = c.loop-id-test.false in let r = c.requires.some in omega (arith, length-between c.args.ids.now 1 (length c.args.ids.now) (omega arith)))
