use mathlib.Core.Path.{sym}
use native.Mathlib.Omega.{arith}
use lib.Seq.{length-take-le}
use borrow.Author.Tests.{not-true, not-false}
use Rattle.stream.specs.Frames.{frames_program}
use Rattle.stream.proofs.Feeding.{line_open, line_ended, line_taken}
use Rattle.stream.proofs.feed.take_line.Goals as goal

pub gather-g-requires : goal.gather-g-requires
gather-g-requires c = omega (arith, c.requires.0.few, c.requires.0.places)

pub returns-then-not-g : goal.returns-then-not-g
returns-then-not-g c = (line_open frames_program c.gather-g.ensures c.requires.0.places _ _ _ (not-true _ c.if-not-g.true) (omega (arith, c.requires.0.answer)), (line_taken frames_program c.gather-g.ensures c.requires.0.places c.gather-g.result.kept (omega arith), c.requires.1))

pub slice_bounds-line-end : goal.slice_bounds-line-end
slice_bounds-line-end c = omega (arith, c.gather-g.ensures.few, c.gather-g.auto.line)

pub slice_bounds-line-end-2 : goal.slice_bounds-line-end-2
slice_bounds-line-end-2 c = sym (length-take-le _ _ (omega (arith, c.gather-g.ensures.few, c.gather-g.auto.line)))

pub returns : goal.returns
returns c = (line_ended frames_program c.gather-g.ensures c.requires.0.places _ _ _ (not-false _ c.if-not-g.false) _ _ _ c.answer_line-next.ensures.0, (line_taken frames_program c.gather-g.ensures c.requires.0.places 0 (omega arith), c.answer_line-next.ensures.1))
