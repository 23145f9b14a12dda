use native.Mathlib.Omega.{arith}
use mathlib.Core.Path.{refl}
use Rattle.stream.proofs.Feeding.{line_answered}
use Rattle.desk_line.specs.Feeds.{fill_program}
use Rattle.desk_line.proofs.Feeding.{desk_is, written_is, places_are, few_written, deskable_after}
use Rattle.desk_line.proofs.feed.answer_line.Goals as goal

pub answer-t-requires : goal.answer-t-requires
answer-t-requires c = (c.requires.1.keeps, c.requires.1.desking)

pub overflow_add-next : goal.overflow_add-next
overflow_add-next c = omega (arith, few_written _ _ _ _ _ _ c.answer-t.ensures.0 (omega (arith, c.answer-t.auto.main, c.answer-t.auto.aux, c.requires.1.lists)), c.requires.0, c.well_formed)

pub returns : goal.returns
returns c = (line_answered fill_program _ _ _ _ _ _ _ (desk_is _ _ _ _ _ _ c.answer-t.ensures.0) (written_is _ _ _ _ _ _ c.answer-t.ensures.0) (places_are _ _ _ _ _ _ c.answer-t.ensures.0) (few_written _ _ _ _ _ _ c.answer-t.ensures.0 (omega (arith, c.answer-t.auto.main, c.answer-t.auto.aux, c.requires.1.lists))) _ _ refl c.requires.0, (refl, deskable_after c.requires.1 c.answer-t.ensures.1.0 c.answer-t.ensures.1.1 c.answer-t.auto.main c.answer-t.auto.aux c.answer-t.auto.challenges c.answer-t.auto.row_main c.answer-t.auto.row_aux))
