use native.Mathlib.Omega.{arith}
use mathlib.Core.Path.{refl}
use Rattle.stream.specs.Frames.{frames_program}
use Rattle.stream.proofs.Feeding.{line_answered}
use Rattle.stream.proofs.Whole.{state-is, written_is, places_are, few_written}
use Rattle.stream.proofs.feed.answer_line.Goals as goal

pub overflow_add-result : goal.overflow_add-result
overflow_add-result c = omega (arith, few_written _ _ _ _ _ _ c.frame.ensures.0 c.frame.auto.main c.frame.auto.aux, c.requires.0, c.well_formed)

pub returns : goal.returns
returns c = (line_answered frames_program _ _ _ _ _ _ _ (state-is _ _ _ _ _ _ c.frame.ensures.0) (written_is _ _ _ _ _ _ c.frame.ensures.0) (places_are _ _ _ _ _ _ c.frame.ensures.0) (few_written _ _ _ _ _ _ c.frame.ensures.0 c.frame.auto.main c.frame.auto.aux) _ _ refl c.requires.0, c.frame.ensures.1)
