use Rattle.read.proofs.Bases.{base_leaves}
use Rattle.layout.proofs.Valid.{valid_length}
use native.Mathlib.Omega.{arith}
use Rattle.read.proofs.base_test.bases.Goals as goal

pub bounds-m-1 : goal.bounds-m-1
bounds-m-1 c = valid_length _ c.requires.ranked.valid

pub loop-i-init : goal.loop-i-init
loop-i-init c = (record { told = λ j h. absurd (omega arith) }, base_leaves _ c.requires.ranked.valid _ c.leaf_bases.ensures)
