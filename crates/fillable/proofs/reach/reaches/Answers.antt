use Prim.Native.Nat.{◌<◌}
use native.Mathlib.Omega.{arith}
use lib.ListN.{length-take}
use Rattle.std.proofs.lemmas.List.{get_or-take}
use Rattle.layout.specs.Words.{used}
use Rattle.layout.proofs.Valid.{valid_length}
use Rattle.fillable.specs.Reaching.{reach_to}
use Rattle.read.proofs.Along.{along_joinable, along_done}
use Rattle.fillable.proofs.reach.reaches.Goals as goal

pub bounds-m-1 : goal.bounds-m-1
bounds-m-1 c = valid_length _ c.requires.valid

pub reach_at-requires : goal.reach_at-requires
reach_at-requires c =
    let b : c.loop-i.i-index < used c.args.m.now = omega (arith, length-take (used c.args.m.now) c.args.order.now, c.loop-i-test.true) in
    rw get_or-take (along_joinable (reach_to _ _) c.requires _ _ c.loop-i.invariant b)

pub returns : goal.returns
returns c = let o = c.requires.order_room in along_done (reach_to _ _) c.requires _ _ c.loop-i.invariant (omega (arith, length-take (used c.args.m.now) c.args.order.now, c.loop-i-test.false))
