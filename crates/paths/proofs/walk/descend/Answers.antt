use mathlib.Core.Path.{sym, ◌∙◌}
use native.Mathlib.Omega.{arith}
use lib.ListN.{length-set}
use Rattle.layout.proofs.Valid.{valid_fits}
use Rattle.paths.proofs.Counts.{valid_top}
use Rattle.paths.proofs.Stacks.{lineage_start, lineage_left, lineage_done, level_room}
use Rattle.paths.proofs.walk.descend.Goals as goal

pub loop-l-init : goal.loop-l-init
loop-l-init c = lineage_start _ _ _ _ c.requires

pub offset_bounds-stack-place : goal.offset_bounds-stack-place
offset_bounds-stack-place c = let t = valid_top _ c.requires.valid in let l = level_room _ _ _ c.loop-l.invariant.level in omega arith

pub bounds-stack-place : goal.bounds-stack-place
bounds-stack-place c = let r = c.requires.room in let e = c.loop-l.invariant.long in let l = level_room _ _ _ c.loop-l.invariant.level in omega arith

pub overflow_add-top : goal.overflow_add-top
overflow_add-top c = let t = valid_top _ c.requires.valid in let l = level_room _ _ _ c.loop-l.invariant.level in omega arith

pub step_at-s-requires : goal.step_at-s-requires
step_at-s-requires c = valid_fits _ c.requires.valid _ c.loop-l.invariant.level.here

pub shape_of-stack-in-None : goal.shape_of-stack-in-None
shape_of-stack-in-None c = simp length-set c.loop-l.invariant.long

pub returns-in-None : goal.returns-in-None
returns-in-None c = lineage_done _ c.requires.valid _ _ _ _ _ _ c.requires.room c.loop-l.invariant (sym c.step_at-s.ensures ∙ c.in-None.is)

pub loop-l-smaller : goal.loop-l-smaller
loop-l-smaller c = let l = level_room _ _ _ c.loop-l.invariant.level in omega arith

pub loop-l-preserved : goal.loop-l-preserved
loop-l-preserved c = lineage_left _ c.requires.valid _ _ _ _ _ _ c.requires.room c.loop-l.invariant _ _ (sym c.step_at-s.ensures ∙ c.in-Some.is)
