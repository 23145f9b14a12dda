use Rattle.layout.proofs.Valid.{valid_length, valid_room}
use Rattle.build.proofs.Stepping.{told_at, told_full}
use Rattle.build.proofs.Saving.{lent_used}
use Rattle.build.proofs.Undoing.{kept_most, undoable, undone}
use borrow.Author.Rules.{rules}
use Rattle.build.proofs.several.sum_or_back.Goals as goal

pub bounds-m-1 : goal.bounds-m-1
bounds-m-1 c = valid_length _ c.requires.buildable.circuit

pub save-requires : goal.save-requires
save-requires c = lent_used _ (valid_length _ c.requires.buildable.circuit) (valid_room _ c.requires.buildable.circuit)

pub restore-requires : goal.restore-requires
restore-requires c = let s = told_full c.try_sum.ensures c.in_default.is in undoable _ 4096 _ _ _ c.requires.buildable.circuit s.left (kept_most s.left) (search rules)

pub returns-in-Some : goal.returns-in-Some
returns-in-Some c = record { told = told_at c.try_sum.ensures _ c.in-Some.is }

pub returns : goal.returns
returns c = let s = told_full c.try_sum.ensures c.in_default.is in record { told = record { over = s.over; left = undone _ 4096 _ _ _ c.requires.buildable.circuit s.left (kept_most s.left) (search rules) _ c.save.ensures c.restore.ensures c.restore.auto.m } }
