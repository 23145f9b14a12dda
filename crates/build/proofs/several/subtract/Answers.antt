use Rattle.layout.proofs.Valid.{valid_length, valid_room}
use Rattle.build.proofs.Stepping.{told_at, told_full}
use Rattle.build.proofs.Saving.{lent_used}
use Rattle.build.proofs.Undoing.{undoable, undone, classable, back_step}
use borrow.Author.Rules.{rules}
use Rattle.build.proofs.several.subtract.Goals as goal

pub bounds-m-1 : goal.bounds-m-1
bounds-m-1 c = valid_length _ c.requires.buildable.circuit

pub save-requires : goal.save-requires
save-requires c = lent_used _ (valid_length _ c.requires.buildable.circuit) (valid_room _ c.requires.buildable.circuit)

pub restore-requires : goal.restore-requires
restore-requires c = let s = told_full c.try_subtract.ensures c.in_default.is in undoable _ _ _ _ _ c.requires.buildable.circuit s.left s.left.few (search rules)

pub class_anew-requires : goal.class_anew-requires
class_anew-requires c = let s = told_full c.try_subtract.ensures c.in_default.is in classable _ _ _ _ _ _ _ _ c.requires.buildable (undone _ _ _ _ _ c.requires.buildable.circuit s.left s.left.few (search rules) _ c.save.ensures c.restore.ensures c.restore.auto.m) c.try_subtract.auto.numbers c.try_subtract.auto.table c.try_subtract.auto.least

pub returns-in-Some : goal.returns-in-Some
returns-in-Some c = record { told = told_at c.try_subtract.ensures _ c.in-Some.is }

pub returns : goal.returns
returns c = let s = told_full c.try_subtract.ensures c.in_default.is in back_step _ _ _ _ _ _ s (undone _ _ _ _ _ c.requires.buildable.circuit s.left s.left.few (search rules) _ c.save.ensures c.restore.ensures c.restore.auto.m) c.class_anew.ensures
