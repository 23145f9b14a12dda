use Prim.Native.Nat.{◌<◌}
use mathlib.Core.Path.{◌≡◌}
use native.Mathlib.Omega.{arith}
use lib.ListN.{length-take}
use Rattle.std.proofs.lemmas.List.{get_or-take}
use Rattle.paths.proofs.Counts.{valid_top}
use Rattle.filler.proofs.Plans.{planning_room, planning_decides, planning_next}
use Rattle.filler.proofs.plan.make_plan.Goals as goal

pub slice_bounds-i-items-end : goal.slice_bounds-i-items-end
slice_bounds-i-items-end c = let t = valid_top _ c.requires.0.valid in let d = c.requires.0.staged.few in let o = c.requires.0.order_room in omega (arith, length-take c.args.done c.args.order.now)

pub plan_node-x-requires : goal.plan_node-x-requires
plan_node-x-requires c =
    let b : c.loop-i.i-index < c.args.done = omega (arith, length-take c.args.done c.args.order.now, c.loop-i-test.true) in
    rw get_or-take (planning_decides _ _ _ _ _ _ _ _ c.requires.0 _ _ _ _ _ _ c.loop-i.invariant b c.requires.1.0 c.requires.1.1)

pub bounds-alias-i : goal.bounds-alias-i
bounds-alias-i c =
    let b : c.loop-i.i-index < c.args.done = omega (arith, length-take c.args.done c.args.order.now, c.loop-i-test.true) in
    let r = planning_room _ _ _ _ _ _ _ _ c.requires.0 _ _ _ _ _ _ c.loop-i.invariant b c.requires.1.0 c.requires.1.1 in
    rw get_or-take r.2

pub push-many-requires : goal.push-many-requires
push-many-requires c =
    let b : c.loop-i.i-index < c.args.done = omega (arith, length-take c.args.done c.args.order.now, c.loop-i-test.true) in
    let r = planning_room _ _ _ _ _ _ _ _ c.requires.0 _ _ _ _ _ _ c.loop-i.invariant b c.requires.1.0 c.requires.1.1 in
    omega arith

pub loop-i-preserved : goal.loop-i-preserved
loop-i-preserved c =
    let b : c.loop-i.i-index < c.args.done = omega (arith, length-take c.args.done c.args.order.now, c.loop-i-test.true) in
    rw get_or-take (planning_next _ _ _ _ _ _ _ _ c.requires.0 _ _ _ _ _ _ c.loop-i.invariant b c.requires.1.0 c.requires.1.1 _ (rw get_or-take at c.plan_node-x.ensures) _ _ c.push-many.ensures.0 c.push-many.ensures.1 c.push-many.auto.plan)

pub returns : goal.returns
returns c =
    let t = valid_top _ c.requires.0.valid in
    let d = c.requires.0.staged.few in
    let o = c.requires.0.order_room in
    let e : c.loop-i.i-index ≡ c.args.done = omega (arith, length-take c.args.done c.args.order.now, c.loop-i-test.false, c.loop-i.auto.i-index-end) in
    rw e at c.loop-i.invariant.so_far
