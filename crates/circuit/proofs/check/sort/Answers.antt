use native.Mathlib.Omega.{arith}
use Rattle.layout.proofs.Valid.{header_room, header_top}
use Rattle.circuit.proofs.Orders.{ranked_placing, unordered, ordered}
use Rattle.circuit.proofs.check.sort.Goals as goal

pub returns-then-not-walk : goal.returns-then-not-walk
returns-then-not-walk c = unordered _ _ _ _ c.walk.ensures c.if-not-walk.true

pub bounds-m-1 : goal.bounds-m-1
bounds-m-1 c = (header_room _ c.requires.0.header).0

pub list-requires : goal.list-requires
list-requires c = let m = c.args.m.now in
    let t = header_top m c.requires.0.header in
    let r = c.requires.0.room in
    let o = c.requires.1 in
    let k = c.walk.auto.rank in
    (ranked_placing m _ (c.walk.ensures.ranked c.if-not-walk.false), (omega arith, omega arith))

pub returns : goal.returns
returns c = ordered _ _ _ _ c.walk.ensures c.if-not-walk.false c.list.ensures
