use Prim.Native.Nat.{◌-◌}
use mathlib.Core.Path.{◌≡◌}
use native.Mathlib.Omega.{arith}
use Rattle.layout.proofs.Valid.{valid_length}
use Rattle.paths.proofs.Walks.{roots_below}
use Rattle.paths.proofs.Written.{zeros_at}
use Rattle.paths.proofs.Counts.{valid_top, shares_start, shares_small, shares_step, shares_done}
use Rattle.paths.proofs.counting.count_paths.Goals as goal

pub bounds-m-1 : goal.bounds-m-1
bounds-m-1 c = valid_length _ c.requires.valid

pub clear-requires : goal.clear-requires
clear-requires c = let t = valid_top c.args.m.now c.requires.valid in let r = c.requires.room in omega arith

pub seed-requires : goal.seed-requires
seed-requires c = let v = c.requires in
    let t = valid_top c.args.m.now v.valid in
    let r = v.room in
    record { none = λ i l. rw c.clear.ensures (zeros_at _ _ i l); room = omega (arith, c.clear.auto.counts); below = roots_below _ _ v.ids }

pub loop-q-init : goal.loop-q-init
loop-q-init c = let v = c.requires in shares_start _ v.valid _ _ v.sorted _ v.ids _ c.seed.ensures

pub offset_bounds-order-q : goal.offset_bounds-order-q
offset_bounds-order-q c = let v = c.requires in let t = valid_top c.args.m.now v.valid in omega arith

pub bounds-order-q : goal.bounds-order-q
bounds-order-q c = let v = c.requires in let t = valid_top c.args.m.now v.valid in let o = v.order_room in omega arith

pub give-requires : goal.give-requires
give-requires c = let v = c.requires in
    let r = v.room in
    let h = v.sorted.order_below (c.loop-q.q - 1) (omega arith) in
    record { valid = v.valid; here = h; room = omega (arith, c.seed.auto.counts, c.clear.auto.counts); small = shares_small _ _ _ _ _ _ c.loop-q.invariant h }

pub loop-q-preserved : goal.loop-q-preserved
loop-q-preserved c = let v = c.requires in
    let r = v.room in
    let t = valid_top c.args.m.now v.valid in
    shares_step _ v.valid _ _ v.sorted _ v.ids _ _ _ c.loop-q-test.true c.loop-q.auto.q (omega (arith, c.seed.auto.counts, c.clear.auto.counts)) c.give.ensures c.loop-q.invariant

pub returns : goal.returns
returns c = let v = c.requires in
    let e : c.loop-q.q ≡ 0 = omega arith in
    shares_done _ v.valid _ _ v.sorted _ v.ids _ (rw e at c.loop-q.invariant)
