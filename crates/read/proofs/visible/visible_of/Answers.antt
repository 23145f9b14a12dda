use Rattle.read.proofs.Seen.{no_marks, class_below, visible_told}
use Rattle.paths.proofs.Counts.{valid_top}
use Rattle.layout.proofs.Valid.{valid_length}
use native.Mathlib.Omega.{arith}
use mathlib.Core.Path.{◌∙◌}
use Rattle.read.proofs.visible.visible_of.Goals as goal

pub classes-requires : goal.classes-requires
classes-requires c = let t = valid_top _ c.requires.valid in
    record { orderly = record { circuit = c.requires.valid; sorted = c.requires.sorted; ids = omega (arith, c.requires.order_room); sized = record { numbers = omega arith; keys = omega arith } }; leasts = omega arith }

pub mark_classes-requires : goal.mark_classes-requires
mark_classes-requires c = let t = valid_top _ c.requires.valid in
    record { valid = c.requires.valid; counts_room = omega (arith, c.count_paths.auto.counts); class_room = omega (arith, c.classes.auto.class); seen_room = omega arith; classes = class_below _ _ c.classes.ensures; none = no_marks 4096 }

pub bounds-m-1 : goal.bounds-m-1
bounds-m-1 c = valid_length _ c.requires.valid

pub count_marks-requires : goal.count_marks-requires
count_marks-requires c = omega (arith, valid_top _ c.requires.valid, c.mark_classes.auto.seen)

pub returns : goal.returns
returns c = c.count_marks.ensures ∙ visible_told _ _ _ c.classes.new.class c.mark_classes.new.seen c.requires.valid c.requires.ids c.count_paths.ensures c.classes.ensures c.mark_classes.ensures
