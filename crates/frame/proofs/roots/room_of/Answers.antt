use native.Mathlib.Omega.{arith}
use Rattle.framing.specs.States.{root_room}
use Rattle.frame.proofs.roots.room_of.Goals as goal

pub returns-then-roots-eq0 : goal.returns-then-roots-eq0
unfolding root_room
returns-then-roots-eq0 c = omega arith

pub returns-then-roots-lt-MOST_ROOTS : goal.returns-then-roots-lt-MOST_ROOTS
unfolding root_room
returns-then-roots-lt-MOST_ROOTS c = omega arith

pub returns : goal.returns
unfolding root_room
returns c = omega arith
