use Rattle.layout.specs.declared.node.Node.{Node}
use mathlib.Core.Path.{ap}
use native.Mathlib.Omega.{arith}
use Rattle.layout.proofs.Valid.{valid_length, valid_fits}
use Rattle.paths.proofs.Counts.{valid_top}
use Rattle.paths.proofs.Gathers.{gathered_start, gathered_few, gathered_next, gathered_same}
use Rattle.paths.proofs.references.gather.Goals as goal
use Rattle.paths.proofs.references.gather.Goals.{then-counts-j-gt0, else-counts-j-gt0}

pub bounds-m-1 : goal.bounds-m-1
bounds-m-1 c = valid_length _ c.requires.valid

pub loop-j-init : goal.loop-j-init
loop-j-init c = gathered_start _ _ _

pub offset_bounds-counts-j : goal.offset_bounds-counts-j
offset_bounds-counts-j c = let t = valid_top _ c.requires.valid in omega arith

pub bounds-counts-j : goal.bounds-counts-j
bounds-counts-j c = let t = valid_top _ c.requires.valid in let r = c.requires.room in omega arith

pub node_at-requires : goal.node_at-requires
node_at-requires c = valid_fits _ c.requires.valid _ c.loop-j-test.true

pub insert_word-found-requires : goal.insert_word-found-requires
insert_word-found-requires c = let t = valid_top _ c.requires.valid in let r = c.requires.words_room in let e = c.loop-j.invariant.long in let f = gathered_few _ _ _ _ _ c.loop-j.invariant.holds in omega arith

pub loop-j-preserved : goal.loop-j-preserved
loop-j-preserved c = let g = c.loop-j.invariant in
    elim c.if-counts-j-gt0.branch [
      | then-counts-j-gt0 w ↦ rw (w.words-is, w.found-is) (gathered_next _ _ _ _ _ _ g _ _ _ w.if-counts-j-gt0.true (ap (λ (x : Node). x.references) w.node_at.ensures) w.insert_word-found.auto.words w.insert_word-found.ensures)
      | else-counts-j-gt0 w ↦ rw (w.words-is, w.found-is) (gathered_same _ _ _ _ _ _ g w.if-counts-j-gt0.false)
    ]
