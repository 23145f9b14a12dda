use Rattle.read.proofs.Seen.{marked_start, marked_skip, marked_set}
use Rattle.layout.proofs.Valid.{valid_length}
use native.Mathlib.Omega.{arith}
use Rattle.read.proofs.visible.mark_classes.Goals as goal
use Rattle.read.proofs.visible.mark_classes.Goals.{then-counts-i-ne0, else-counts-i-ne0}

pub bounds-m-1 : goal.bounds-m-1
bounds-m-1 c = valid_length _ c.requires.valid

pub loop-i-init : goal.loop-i-init
loop-i-init c = marked_start _ _ _ c.requires.none

pub loop-i-preserved : goal.loop-i-preserved
loop-i-preserved c = elim c.if-counts-i-ne0.branch [ then-counts-i-ne0 w ↦ rw w.seen-is (marked_set _ _ _ _ c.loop-i.invariant w.if-counts-i-ne0.true (omega (arith, c.requires.classes c.loop-i.i c.loop-i-test.true, c.loop-i.auto.seen, c.requires.seen_room))) | else-counts-i-ne0 w ↦ rw w.seen-is (marked_skip _ _ _ _ c.loop-i.invariant w.if-counts-i-ne0.false) ]
