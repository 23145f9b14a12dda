use native.Mathlib.Omega.{arith}
use Rattle.layout.proofs.Valid.{place_fits, limit_top}
use Rattle.circuit.proofs.Places.{made_by}
use Rattle.circuit.proofs.place.make.Goals as goal

pub bounds-m-1 : goal.bounds-m-1
bounds-m-1 c = let f = place_fits c.args.m.now _ c.requires in
    let t = limit_top c.args.m.now in
    omega arith

pub fill-requires : goal.fill-requires
fill-requires c = place_fits _ _ c.requires

pub overflow_add-m : goal.overflow_add-m
overflow_add-m c = let f = place_fits c.args.m.now _ c.requires in
    let t = limit_top c.args.m.now in
    omega arith

pub bounds-m-1-2 : goal.bounds-m-1-2
bounds-m-1-2 c = let f = place_fits c.args.m.now _ c.requires in
    let t = limit_top c.args.m.now in
    let k = c.fill.auto.m in
    omega arith

pub returns : goal.returns
returns c = made_by _ _ _ _ c.requires c.words_of.ensures c.fill.ensures
