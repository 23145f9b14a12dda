use Prim.Native.Nat.{◌<◌}
use native.Mathlib.Omega.{arith}
use lib.ListN.{length-take}
use Rattle.std.proofs.lemmas.List.{get_or-take}
use Rattle.layout.proofs.Valid.{valid_header, valid_length, header_top}
use Rattle.filler.proofs.Ranks.{reaching_start, reaching_visit, visit_ends, reaching_next}
use Rattle.filler.proofs.order.rank_targets.Goals as goal

pub bounds-m-1 : goal.bounds-m-1
bounds-m-1 c = valid_length _ c.requires.0.valid

pub unfinish-requires : goal.unfinish-requires
unfinish-requires c = let t = header_top c.args.m.now (valid_header _ c.requires.0.valid) in let r = c.requires.1.1 in omega arith

pub loop-i-init : goal.loop-i-init
loop-i-init c = reaching_start c.args.s _ c.args.m.now c.args.targets.now _ c.unfinish.ensures

pub visit-requires : goal.visit-requires
visit-requires c =
    let b : c.loop-i.i-index < c.args.s.items = omega (arith, length-take c.args.s.items c.args.targets.now, c.loop-i-test.true) in
    rw get_or-take (reaching_visit _ _ _ _ _ _ _ _ c.requires.0 c.loop-i.invariant b (let q = c.unfinish.auto.rank in let r = c.requires.1.1 in omega arith))

pub unwrap-done-requires : goal.unwrap-done-requires
unwrap-done-requires c =
    let b : c.loop-i.i-index < c.args.s.items = omega (arith, length-take c.args.s.items c.args.targets.now, c.loop-i-test.true) in
    visit_ends _ _ _ _ _ _ _ _ c.requires.0 c.loop-i.invariant b _ _ (rw get_or-take at c.visit.ensures)

pub loop-i-preserved : goal.loop-i-preserved
loop-i-preserved c =
    let b : c.loop-i.i-index < c.args.s.items = omega (arith, length-take c.args.s.items c.args.targets.now, c.loop-i-test.true) in
    reaching_next _ _ _ _ _ _ _ _ c.requires.0 c.loop-i.invariant b _ _ ((rw get_or-take at c.visit.ensures).further _ c.unwrap-done.ensures) c.visit.auto.rank
