use native.Mathlib.Omega.{arith}
use mathlib.Core.Path.{sym}
use Rattle.layout.proofs.Valid.{valid_length}
use Rattle.filler.proofs.Eachs.{each_none}
use Rattle.filler.proofs.calls.fill_all.Goals as goal

pub returns-then-s-eq0 : goal.returns-then-s-eq0
returns-then-s-eq0 c = let i = c.requires.passed.is_items in let z = c.if-s-eq0.true in sym (each_none c.args.s c.args.m.now c.args.mains.now c.args.auxs.now c.args.challenges.now c.args.main.now c.args.aux.now (omega arith) (omega arith) c.args.filled c.requires.within.each)

pub prepare-many-requires : goal.prepare-many-requires
prepare-many-requires c = record { passed = c.requires.passed; base_bits = c.requires.base_bits; bases_room = c.requires.bases_room; targets_room = c.requires.targets_room; plan_room = omega arith }

pub fix-requires : goal.fix-requires
fix-requires c = (c.requires.passed.valid, record { words_room = omega arith; triples_room = omega arith })

pub fill_each-requires : goal.fill_each-requires
fill_each-requires c = record { prepared = c.prepare-many.ensures; ready = c.fix.ensures; within = c.requires.within; has_kind = let l = valid_length _ c.requires.passed.valid in omega arith }

pub returns : goal.returns
returns c = c.fill_each.ensures
