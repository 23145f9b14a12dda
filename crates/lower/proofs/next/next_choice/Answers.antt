use Rattle.layout.proofs.Valid.{valid_length}
use Rattle.lower.proofs.Surveys.{picked_done, ranked, picked_node}
use Rattle.lower.proofs.next.next_choice.Goals as goal

pub returns-then-not-too_high : goal.returns-then-not-too_high
returns-then-not-too_high c = picked_done _ _ _ _ _ _ _ c.requires c.survey.ensures _ c.too_high.ensures c.if-not-too_high.true

pub bounds-m-1 : goal.bounds-m-1
bounds-m-1 c = valid_length _ c.requires.valid

pub is_base-requires : goal.is_base-requires
is_base-requires c = ranked _ _ _ _ _ _ _ c.requires c.survey.ensures _ c.too_high.ensures

pub returns : goal.returns
returns c = picked_node _ _ _ _ _ _ _ c.requires c.survey.ensures _ c.too_high.ensures c.if-not-too_high.false _ _ c.occurrences.ensures c.best_candidate-s.ensures _ c.is_base.ensures
