use mathlib.Core.Path.{sym}
use native.Mathlib.Omega.{arith}
use lib.Seq.{length-take-le}
use borrow.Author.Tests.{not-true, not-false}
use Rattle.stream.proofs.Feeding.{line_open, line_ended, line_taken}
use Rattle.desk_line.specs.Feeds.{fill_program}
use Rattle.desk_line.proofs.feed.take_line.Goals as goal

pub gather-g-requires : goal.gather-g-requires
gather-g-requires c = omega (arith, c.requires.0.few, c.requires.0.places)

pub returns-then-not-g : goal.returns-then-not-g
returns-then-not-g c = (line_open fill_program c.gather-g.ensures c.requires.0.places _ _ _ (not-true _ c.if-not-g.true) (omega (arith, c.requires.0.answer)), (line_taken fill_program c.gather-g.ensures c.requires.0.places c.gather-g.result.kept (omega arith), c.requires.1))

pub slice_bounds-line-end : goal.slice_bounds-line-end
slice_bounds-line-end c = omega (arith, c.gather-g.ensures.few, c.gather-g.auto.line)

pub slice_bounds-line-end-2 : goal.slice_bounds-line-end-2
slice_bounds-line-end-2 c = sym (length-take-le _ _ (omega (arith, c.gather-g.ensures.few, c.gather-g.auto.line)))

pub answer_line-step-requires : goal.answer_line-step-requires
answer_line-step-requires c = (c.requires.0.answer, c.requires.1)

pub shape_of-line : goal.shape_of-line
shape_of-line c = c.gather-g.auto.line

pub returns : goal.returns
returns c = (rw c.answer_line-step.ensures.1.0 (line_ended fill_program c.gather-g.ensures c.requires.0.places _ _ _ (not-false _ c.if-not-g.false) _ _ _ c.answer_line-step.ensures.0), (line_taken fill_program c.gather-g.ensures c.requires.0.places c.answer_line-step.result.kept (omega (arith, c.answer_line-step.ensures.1.0)), c.answer_line-step.ensures.1.1))
