use native.Mathlib.Omega.{arith}
use Rattle.paths.proofs.Walks.{roots_below}
use Rattle.paths.proofs.Lengths.{sum-zero, sum_next}
use Rattle.paths.proofs.sizes.sum_sizes.Goals as goal

pub loop-root-init : goal.loop-root-init
loop-root-init c = sum-zero c.args.m.now c.args.roots.now _

pub offset_bounds-sizes-root : goal.offset_bounds-sizes-root
offset_bounds-sizes-root c = let b = roots_below _ _ c.requires.ids _ c.loop-root-test.true in let t = c.requires.top_nodes in omega arith

pub bounds-sizes-root : goal.bounds-sizes-root
bounds-sizes-root c = let b = roots_below _ _ c.requires.ids _ c.loop-root-test.true in let t = c.requires.top_nodes in let r = c.requires.room in omega arith

pub overflow_add-sum : goal.overflow_add-sum
overflow_add-sum c = let v = c.requires in let t = v.sizes_told.told _ (roots_below _ _ v.ids _ c.loop-root-test.true) in let i = c.loop-root.invariant in let s = v.small in omega arith

pub loop-root-preserved : goal.loop-root-preserved
loop-root-preserved c = let v = c.requires in
    let t = v.sizes_told.told _ (roots_below _ _ v.ids _ c.loop-root-test.true) in
    sum_next _ _ _ _ _ _ c.loop-root-test.true c.loop-root.invariant (rw (← t) (omega arith))
