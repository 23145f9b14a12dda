use native.Mathlib.Omega.{arith}
use Rattle.layout.proofs.Valid.{valid_length}
use Rattle.paths.proofs.Counts.{valid_top}
use Rattle.paths.proofs.Lengths.{sizes_operands, sizes-next, sizes_done}
use Rattle.paths.proofs.sizes.tree_sizes.Goals as goal

pub bounds-m-1 : goal.bounds-m-1
bounds-m-1 c = valid_length _ c.requires.valid

pub offset_bounds-order-q : goal.offset_bounds-order-q
offset_bounds-order-q c = let t = valid_top _ c.requires.valid in omega arith

pub bounds-order-q : goal.bounds-order-q
bounds-order-q c = let t = valid_top _ c.requires.valid in let o = c.requires.order_room in omega arith

pub size_at-requires : goal.size_at-requires
size_at-requires c = let v = c.requires in
    let l = c.loop-q-test.true in
    let r = v.room in
    record { valid = v.valid; here = v.sorted.order_below _ l; room = omega arith; small = v.small; operands = sizes_operands _ v.valid _ _ v.sorted _ _ _ c.loop-q.invariant l }

pub offset_bounds-sizes-i : goal.offset_bounds-sizes-i
offset_bounds-sizes-i c = let v = c.requires in let t = valid_top _ v.valid in let b = v.sorted.order_below _ c.loop-q-test.true in omega arith

pub bounds-sizes-i : goal.bounds-sizes-i
bounds-sizes-i c = let v = c.requires in let t = valid_top _ v.valid in let b = v.sorted.order_below _ c.loop-q-test.true in let r = v.room in omega arith

pub loop-q-preserved : goal.loop-q-preserved
loop-q-preserved c = let v = c.requires in
    let t = valid_top _ v.valid in
    let l = c.loop-q-test.true in
    let b = v.sorted.order_below _ l in
    let r = v.room in
    sizes-next _ v.valid _ _ v.sorted _ _ _ c.loop-q.invariant l (omega arith) _ c.size_at.ensures

pub returns : goal.returns
returns c = let v = c.requires in sizes_done _ v.valid _ _ v.sorted _ _ _ c.loop-q.invariant (omega arith)
