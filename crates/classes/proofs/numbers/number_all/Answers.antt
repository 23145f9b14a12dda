use mathlib.Core.Path.{◌∙◌}
use native.Mathlib.Omega.{arith}
use Rattle.layout.proofs.Valid.{valid_length, valid_room, limit_top}
use Rattle.classes.proofs.Numbering.{order_enterable, order_more, order_all}
use Rattle.classes.proofs.numbers.number_all.Goals as goal

pub bounds-m-1 : goal.bounds-m-1
bounds-m-1 c = let k = valid_length _ c.requires.circuit in omega arith

pub enter_one-requires : goal.enter_one-requires
enter_one-requires c = let o = c.requires in
    order_enterable _ _ _ o.sorted _ _ _ o.circuit c.loop-q-test.true
    (record { numbers = rw c.loop-q.auto.numbers o.sized.numbers; keys = rw (c.loop-q.auto.table ∙ c.blank.auto.s) o.sized.keys })
    c.loop-q.invariant

pub loop-q-preserved : goal.loop-q-preserved
loop-q-preserved c = let o = c.requires in
    let x = c.loop-q.auto.numbers in
    let y = o.sized.numbers in
    let r = valid_room _ o.circuit in
    let s = limit_top c.args.m.now in
    order_more _ _ _ o.sorted _ _ _ _ _ c.loop-q-test.true (omega arith) c.loop-q.invariant c.enter_one.ensures

pub returns : goal.returns
returns c = order_all _ _ _ c.requires.sorted _ _ _ c.loop-q-test.false c.loop-q.auto.q-end c.loop-q.invariant
