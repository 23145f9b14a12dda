use Rattle.std.proofs.lemmas.List.{get_or-take, length-take-le}
use Rattle.read.proofs.Along.{along_joinable, along_next, along_done}
use Rattle.read.specs.Degrees.{degree_to}
use Rattle.layout.specs.Words.{used}
use Rattle.layout.proofs.Valid.{valid_length}
use mathlib.Core.Path.{sym, ap, ◌∙◌}
use Prim.Native.Nat.{◌<◌}
use native.Mathlib.Omega.{arith}
use Rattle.read.proofs.degree.degrees_along.Goals as goal

pub bounds-m-1 : goal.bounds-m-1
bounds-m-1 c = valid_length _ c.requires.valid

pub degree_at-requires : goal.degree_at-requires
degree_at-requires c = let h : c.loop-i.i-index < used c.args.m.now = omega (arith, c.loop-i-test.true, length-take-le _ _ c.requires.order_room) in
    let e = sym (get_or-take (used c.args.m.now) c.args.order.now c.loop-i.i-index 0 h) in
    rw e at (along_joinable (degree_to _) c.requires c.loop-i.table c.loop-i.i-index c.loop-i.invariant h)

pub loop-i-preserved : goal.loop-i-preserved
loop-i-preserved c = let h : c.loop-i.i-index < used c.args.m.now = omega (arith, c.loop-i-test.true, length-take-le _ _ c.requires.order_room) in
    let e = get_or-take (used c.args.m.now) c.args.order.now c.loop-i.i-index 0 h in
    rw (sym e) at (along_next (degree_to _) c.requires c.loop-i.table c.loop-i.i-index c.loop-i.invariant h c.degree_at.result (c.degree_at.ensures ∙ ap (degree_to _) e))

pub returns : goal.returns
returns c = along_done (degree_to _) c.requires _ _ c.loop-i.invariant (omega (arith, c.loop-i-test.false, length-take-le _ _ c.requires.order_room))
