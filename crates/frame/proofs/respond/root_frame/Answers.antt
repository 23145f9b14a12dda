use Rattle.frame.proofs.Responding.{root_bad, root_full, root_added, room_left}
use Rattle.frame.proofs.respond.root_frame.Goals as goal

pub returns-then-used_of-i : goal.returns-then-used_of-i
returns-then-used_of-i c = λ main aux. root_bad _ _ main aux _ _ c.used_of.ensures c.if-used_of-i.true

pub returns-then-count_of-room_of : goal.returns-then-count_of-room_of
returns-then-count_of-room_of c = λ main aux. root_full _ _ main aux _ _ c.used_of.ensures c.if-used_of-i.false _ _ c.count_of.ensures c.room_of.ensures c.if-count_of-room_of.true

pub add-requires : goal.add-requires
add-requires c = room_left _ _ _ c.count_of.ensures c.room_of.ensures c.if-count_of-room_of.false

pub returns : goal.returns
returns c = λ main aux. root_added _ _ main aux _ _ c.used_of.ensures c.if-used_of-i.false _ _ _ c.count_of.ensures c.room_of.ensures c.if-count_of-room_of.false c.add.ensures
