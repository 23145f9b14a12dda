use native.Mathlib.Omega.{arith}
use Rattle.layout.proofs.Valid.{header_room, header_top}
use Rattle.circuit.proofs.Visits.{able_kept, ranking_start, ranking_visit, walk_fails, walk_done}
use Rattle.circuit.proofs.check.walk.Goals as goal

pub bounds-m-1 : goal.bounds-m-1
bounds-m-1 c = (header_room _ c.requires.header).0

pub unfinish-requires : goal.unfinish-requires
unfinish-requires c = let t = header_top c.args.m.now c.requires.header in let r = c.requires.room in omega arith

pub loop-i-init : goal.loop-i-init
loop-i-init c = ranking_start c.args.m.now _ c.unfinish.ensures

pub visit-requires : goal.visit-requires
visit-requires c = ranking_visit _ _ _ _ _ c.loop-i.invariant c.loop-i-test.true (able_kept _ _ _ c.requires c.unfinish.auto.rank)

pub returns-in_default : goal.returns-in_default
returns-in_default c = walk_fails _ _ _ c.loop-i-test.true (c.visit.ensures.goes_on c.in_default.is)

pub returns : goal.returns
returns c = walk_done _ _ _ c.requires.good c.loop-i.invariant.walking (λ i l. c.loop-i.invariant.so_far i (omega arith))
