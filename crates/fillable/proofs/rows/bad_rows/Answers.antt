use Rattle.fillable.proofs.Tested.{rows_tests}
use Rattle.read.proofs.Lent.{valid_rows}
use Rattle.layout.proofs.Valid.{valid_length}
use Rattle.fillable.specs.Columned.{columns_in}
use borrow.Author.Tests.{lt-ltb, le-ltb}
use mathlib.Core.Path.{refl, sym, ◌∙◌}
use native.Mathlib.Omega.{arith}
use Rattle.fillable.proofs.rows.bad_rows.Goals as goal

pub bounds-m-0 : goal.bounds-m-0
bounds-m-0 c = omega (arith, valid_length _ c.requires.valid)

pub returns-then-rows-m : goal.returns-then-rows-m
returns-then-rows-m c = rw (rows_tests c.args.rows c.args.main_count c.args.aux_count c.args.m.now c.args.mains.now c.args.auxs.now c.args.main.now c.args.aux.now c.args.challenges.now (columns_in c.args.rows c.args.main.now c.args.aux.now c.args.challenges.now) refl, lt-ltb _ _ c.if-rows-m.true)

pub is_uneven-requires : goal.is_uneven-requires
is_uneven-requires c = let r = valid_rows _ c.requires.valid in omega arith

pub returns-then-is_uneven : goal.returns-then-is_uneven
returns-then-is_uneven c = rw (rows_tests c.args.rows c.args.main_count c.args.aux_count c.args.m.now c.args.mains.now c.args.auxs.now c.args.main.now c.args.aux.now c.args.challenges.now (columns_in c.args.rows c.args.main.now c.args.aux.now c.args.challenges.now) refl, le-ltb _ _ c.if-rows-m.false, sym c.is_uneven.ensures ∙ c.if-is_uneven.true)

pub columns_in-c-requires : goal.columns_in-c-requires
columns_in-c-requires c = let r = valid_rows _ c.requires.valid in omega arith

pub returns-then-no_room : goal.returns-then-no_room
returns-then-no_room c = rw (rows_tests c.args.rows c.args.main_count c.args.aux_count c.args.m.now c.args.mains.now c.args.auxs.now c.args.main.now c.args.aux.now c.args.challenges.now c.columns_in-c.result c.columns_in-c.ensures, le-ltb _ _ c.if-rows-m.false, sym c.is_uneven.ensures ∙ c.if-is_uneven.false, sym c.no_room.ensures ∙ c.if-no_room.true)

pub returns-then-reads_beyond : goal.returns-then-reads_beyond
returns-then-reads_beyond c = rw (rows_tests c.args.rows c.args.main_count c.args.aux_count c.args.m.now c.args.mains.now c.args.auxs.now c.args.main.now c.args.aux.now c.args.challenges.now c.columns_in-c.result c.columns_in-c.ensures, le-ltb _ _ c.if-rows-m.false, sym c.is_uneven.ensures ∙ c.if-is_uneven.false, sym c.no_room.ensures ∙ c.if-no_room.false, sym c.reads_beyond.ensures ∙ c.if-reads_beyond.true)

pub returns : goal.returns
returns c = rw (rows_tests c.args.rows c.args.main_count c.args.aux_count c.args.m.now c.args.mains.now c.args.auxs.now c.args.main.now c.args.aux.now c.args.challenges.now c.columns_in-c.result c.columns_in-c.ensures, le-ltb _ _ c.if-rows-m.false, sym c.is_uneven.ensures ∙ c.if-is_uneven.false, sym c.no_room.ensures ∙ c.if-no_room.false, sym c.reads_beyond.ensures ∙ c.if-reads_beyond.false) c.reads_beyond-2.ensures
