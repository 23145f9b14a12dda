use native.Mathlib.Omega.{arith}
use Rattle.framing.specs.States.{root_room, root_count}
use Rattle.frame.proofs.roots.count_of.Goals as goal

pub returns-then-room-eq0 : goal.returns-then-room-eq0
unfolding root_count
returns-then-room-eq0 c = omega (arith, c.room_of-room.ensures)

pub bounds-roots-0 : goal.bounds-roots-0
unfolding root_room
bounds-roots-0 c = omega (arith, c.room_of-room.ensures)

pub bounds-roots-0-then-roots-room : goal.bounds-roots-0-then-roots-room
unfolding root_room
bounds-roots-0-then-roots-room c = omega (arith, c.room_of-room.ensures)

pub returns-then-roots-room : goal.returns-then-roots-room
unfolding root_count
returns-then-roots-room c = omega (arith, c.room_of-room.ensures)

pub returns : goal.returns
unfolding root_count
returns c = omega (arith, c.room_of-room.ensures)
