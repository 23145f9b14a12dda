use mathlib.Core.Path.{◌∙◌}
use native.Mathlib.Omega.{arith}
use borrow.Author.Rules.{rules}
use Rattle.paths.proofs.Counts.{valid_top}
use Rattle.paths.proofs.Stacks.{unwinding_descends, unwinding_start, unwinding_room, unwinding_depth, unwinding_right, unwinding_next, unwinding_done, walking_kept, walked_from}
use Rattle.paths.proofs.walk.walk_root.Goals as goal

pub descend-depth-requires : goal.descend-depth-requires
descend-depth-requires c = unwinding_descends _ _ _ _ _ c.requires

pub loop-depth-init : goal.loop-depth-init
loop-depth-init c = unwinding_start _ _ _ _ _ (walking_kept _ _ _ _ _ _ c.requires c.descend-depth.auto.stack) _ _ c.descend-depth.ensures

pub offset_bounds-stack-top : goal.offset_bounds-stack-top
offset_bounds-stack-top c = let w = walking_kept _ _ _ _ _ _ c.requires c.descend-depth.auto.stack in
    let d = unwinding_depth _ _ _ _ _ w _ _ _ _ c.loop-depth.invariant c.loop-depth-test.true in
    let t = valid_top _ w.valid in
    omega arith

pub bounds-stack-top : goal.bounds-stack-top
bounds-stack-top c = let w = walking_kept _ _ _ _ _ _ c.requires c.descend-depth.auto.stack in
    let d = unwinding_depth _ _ _ _ _ w _ _ _ _ c.loop-depth.invariant c.loop-depth-test.true in
    let r = w.stack_room in
    let e = c.loop-depth.invariant.stack_long in
    let h = c.loop-depth-test.true in
    omega arith

pub offset_bounds-list-place : goal.offset_bounds-list-place
offset_bounds-list-place c = let w = walking_kept _ _ _ _ _ _ c.requires c.descend-depth.auto.stack in
    let r = unwinding_room _ _ _ _ _ w _ _ _ _ c.loop-depth.invariant c.loop-depth-test.true in
    let e = c.loop-depth.invariant.list_long in
    search rules

pub bounds-list-place : goal.bounds-list-place
bounds-list-place c = let w = walking_kept _ _ _ _ _ _ c.requires c.descend-depth.auto.stack in
    let r = unwinding_room _ _ _ _ _ w _ _ _ _ c.loop-depth.invariant c.loop-depth-test.true in
    let e = c.loop-depth.invariant.list_long in
    omega arith

pub overflow_add-at : goal.overflow_add-at
overflow_add-at c = let w = walking_kept _ _ _ _ _ _ c.requires c.descend-depth.auto.stack in
    let r = unwinding_room _ _ _ _ _ w _ _ _ _ c.loop-depth.invariant c.loop-depth-test.true in
    let e = c.loop-depth.invariant.list_long in
    omega arith

pub go_right-depth-requires : goal.go_right-depth-requires
go_right-depth-requires c = let w = walking_kept _ _ _ _ _ _ c.requires c.descend-depth.auto.stack in
    unwinding_right _ _ _ _ _ w _ _ _ _ c.loop-depth.invariant c.loop-depth-test.true

pub loop-depth-smaller : goal.loop-depth-smaller
loop-depth-smaller c = let w = walking_kept _ _ _ _ _ _ c.requires c.descend-depth.auto.stack in
    let r = unwinding_room _ _ _ _ _ w _ _ _ _ c.loop-depth.invariant c.loop-depth-test.true in
    omega arith

pub loop-depth-preserved : goal.loop-depth-preserved
loop-depth-preserved c = let w = walking_kept _ _ _ _ _ _ c.requires c.descend-depth.auto.stack in
    unwinding_next _ _ _ _ _ w _ _ _ _ c.loop-depth.invariant c.loop-depth-test.true _ _ c.go_right-depth.auto.stack c.go_right-depth.ensures

pub shape_of-list : goal.shape_of-list
shape_of-list c = c.loop-depth.invariant.list_long

pub shape_of-stack : goal.shape_of-stack
shape_of-stack c = c.loop-depth.invariant.stack_long ∙ c.descend-depth.auto.stack

pub returns : goal.returns
returns c = let w = walking_kept _ _ _ _ _ _ c.requires c.descend-depth.auto.stack in
    walked_from _ _ _ _ _ _ _ _ _ _ _ _ c.descend-depth.ensures (unwinding_done _ _ _ _ _ w _ _ _ _ c.loop-depth.invariant (omega arith))
