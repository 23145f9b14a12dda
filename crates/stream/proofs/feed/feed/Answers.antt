use mathlib.Core.Path.{refl, ◌∙◌}
use native.Mathlib.Omega.{arith}
use Rattle.stream.specs.Frames.{frames_program}
use Rattle.stream.proofs.Feeding.{none_fed, none_written, more_fed, some_taken, rest_length}
use Rattle.stream.proofs.feed.feed.Goals as goal

pub loop-taken-init : goal.loop-taken-init
loop-taken-init c = (none_fed frames_program _ c.args.part.now _ _ refl, (record { m_kept = refl; roots_kept = refl; main_kept = refl; aux_kept = refl; numbers_kept = refl; table_kept = refl; least_kept = refl; line_kept = refl; out_kept = refl }, (c.requires.0.few, (omega arith, c.requires.1))))

pub overflow_sub-out : goal.overflow_sub-out
overflow_sub-out c = omega (arith, c.loop-taken.invariant.0.fits, c.loop-taken.invariant.1.0.out_kept)

pub shape_of-m-then-out-s : goal.shape_of-m-then-out-s
shape_of-m-then-out-s c = c.loop-taken.invariant.1.0.m_kept

pub shape_of-roots-then-out-s : goal.shape_of-roots-then-out-s
shape_of-roots-then-out-s c = c.loop-taken.invariant.1.0.roots_kept

pub shape_of-main-then-out-s : goal.shape_of-main-then-out-s
shape_of-main-then-out-s c = c.loop-taken.invariant.1.0.main_kept

pub shape_of-aux-then-out-s : goal.shape_of-aux-then-out-s
shape_of-aux-then-out-s c = c.loop-taken.invariant.1.0.aux_kept

pub shape_of-numbers-then-out-s : goal.shape_of-numbers-then-out-s
shape_of-numbers-then-out-s c = c.loop-taken.invariant.1.0.numbers_kept

pub shape_of-table-then-out-s : goal.shape_of-table-then-out-s
shape_of-table-then-out-s c = c.loop-taken.invariant.1.0.table_kept

pub shape_of-least-then-out-s : goal.shape_of-least-then-out-s
shape_of-least-then-out-s c = c.loop-taken.invariant.1.0.least_kept

pub shape_of-line-then-out-s : goal.shape_of-line-then-out-s
shape_of-line-then-out-s c = c.loop-taken.invariant.1.0.line_kept

pub shape_of-out-then-out-s : goal.shape_of-out-then-out-s
shape_of-out-then-out-s c = c.loop-taken.invariant.1.0.out_kept

pub returns-then-out-s : goal.returns-then-out-s
returns-then-out-s c = (c.loop-taken.invariant.0, (record { within = c.loop-taken.invariant.1.1.1.0; some = λ h. some_taken _ _ _ _ (none_written frames_program _ _ _ _ _ _ _ _ c.loop-taken.invariant.0) c.if-out-s.true (omega (arith, c.room_for-room.ensures, c.requires.0.answer, c.loop-taken.invariant.1.0.out_kept)); few = c.loop-taken.invariant.1.1.0 }, c.loop-taken.invariant.1.1.1.1))

pub slice_bounds-rest-count : goal.slice_bounds-rest-count
slice_bounds-rest-count c = omega arith

pub slice_bounds-rest-start : goal.slice_bounds-rest-start
slice_bounds-rest-start c = omega arith

pub slice_bounds-rest-end : goal.slice_bounds-rest-end
slice_bounds-rest-end c = omega arith

pub take_line-f-requires : goal.take_line-f-requires
take_line-f-requires c = (record { few = c.loop-taken.invariant.1.1.0; places = c.loop-taken.invariant.1.0.line_kept ∙ c.requires.0.places; answer = omega (arith, c.if-out-s.false, c.room_for-room.ensures, c.loop-taken.invariant.0.fits, c.loop-taken.invariant.1.0.main_kept, c.loop-taken.invariant.1.0.aux_kept, c.loop-taken.invariant.1.0.out_kept) }, c.loop-taken.invariant.1.1.1.1)

pub overflow_add-taken : goal.overflow_add-taken
overflow_add-taken c = omega (arith, c.take_line-f.ensures.1.0.within, rest_length c.args.part.now c.loop-taken.taken c.loop-taken.invariant.1.1.1.0, c.loop-taken.invariant.1.1.1.0, c.well_formed)

pub loop-taken-smaller : goal.loop-taken-smaller
loop-taken-smaller c = omega (arith, c.take_line-f.ensures.1.0.within, c.take_line-f.ensures.1.0.some (omega (arith, c.loop-taken-test.true, rest_length c.args.part.now c.loop-taken.taken c.loop-taken.invariant.1.1.1.0)), c.loop-taken-test.true)

pub loop-taken-preserved : goal.loop-taken-preserved
loop-taken-preserved c = (more_fed frames_program _ c.args.part.now _ _ _ _ _ _ c.loop-taken.invariant.0 _ _ _ _ _ c.loop-taken.invariant.1.1.1.0 c.loop-taken.invariant.1.0.out_kept c.take_line-f.ensures.0, (record { m_kept = c.take_line-f.auto.m ∙ c.loop-taken.invariant.1.0.m_kept; roots_kept = c.take_line-f.auto.roots ∙ c.loop-taken.invariant.1.0.roots_kept; main_kept = c.take_line-f.auto.main ∙ c.loop-taken.invariant.1.0.main_kept; aux_kept = c.take_line-f.auto.aux ∙ c.loop-taken.invariant.1.0.aux_kept; numbers_kept = c.take_line-f.auto.numbers ∙ c.loop-taken.invariant.1.0.numbers_kept; table_kept = c.take_line-f.auto.table ∙ c.loop-taken.invariant.1.0.table_kept; least_kept = c.take_line-f.auto.least ∙ c.loop-taken.invariant.1.0.least_kept; line_kept = c.take_line-f.auto.line ∙ c.loop-taken.invariant.1.0.line_kept; out_kept = c.take_line-f.auto.out ∙ c.loop-taken.invariant.1.0.out_kept }, (c.take_line-f.ensures.1.0.few, (omega (arith, c.take_line-f.ensures.1.0.within, rest_length c.args.part.now c.loop-taken.taken c.loop-taken.invariant.1.1.1.0, c.loop-taken.invariant.1.1.1.0), c.take_line-f.ensures.1.1))))

pub shape_of-m : goal.shape_of-m
shape_of-m c = c.loop-taken.invariant.1.0.m_kept

pub shape_of-roots : goal.shape_of-roots
shape_of-roots c = c.loop-taken.invariant.1.0.roots_kept

pub shape_of-main : goal.shape_of-main
shape_of-main c = c.loop-taken.invariant.1.0.main_kept

pub shape_of-aux : goal.shape_of-aux
shape_of-aux c = c.loop-taken.invariant.1.0.aux_kept

pub shape_of-numbers : goal.shape_of-numbers
shape_of-numbers c = c.loop-taken.invariant.1.0.numbers_kept

pub shape_of-table : goal.shape_of-table
shape_of-table c = c.loop-taken.invariant.1.0.table_kept

pub shape_of-least : goal.shape_of-least
shape_of-least c = c.loop-taken.invariant.1.0.least_kept

pub shape_of-line : goal.shape_of-line
shape_of-line c = c.loop-taken.invariant.1.0.line_kept

pub shape_of-out : goal.shape_of-out
shape_of-out c = c.loop-taken.invariant.1.0.out_kept

pub returns : goal.returns
returns c = (c.loop-taken.invariant.0, (record { within = c.loop-taken.invariant.1.1.1.0; some = λ h. omega (arith, c.loop-taken-test.false, h); few = c.loop-taken.invariant.1.1.0 }, c.loop-taken.invariant.1.1.1.1))
