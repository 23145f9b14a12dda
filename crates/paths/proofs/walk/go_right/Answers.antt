use mathlib.Core.Path.{sym, ◌∙◌}
use Rattle.layout.proofs.Valid.{valid_fits}
use Rattle.paths.proofs.Stacks.{right_none, right_some, right_descends}
use Rattle.paths.proofs.walk.go_right.Goals as goal

pub step_at-s-requires : goal.step_at-s-requires
step_at-s-requires c = valid_fits _ c.requires.valid _ c.requires.level.here

pub descend-requires : goal.descend-requires
descend-requires c = right_descends _ _ _ _ _ _ c.requires (sym c.step_at-s.ensures ∙ c.in-Some.is)

pub returns-in-None : goal.returns-in-None
returns-in-None c = right_none _ _ _ _ c.requires (sym c.step_at-s.ensures ∙ c.in-None.is)

pub returns-in-Some : goal.returns-in-Some
returns-in-Some c = right_some _ _ _ _ _ _ _ _ (sym c.step_at-s.ensures ∙ c.in-Some.is) c.descend.ensures
