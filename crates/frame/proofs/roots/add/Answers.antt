use native.Mathlib.Omega.{arith}
use Rattle.framing.specs.States.{root_room, root_count, with_root}
use lib.ListN.{length-set}
use Rattle.frame.proofs.roots.add.Goals as goal

pub overflow_add-roots : goal.overflow_add-roots
unfolding root_count root_room
overflow_add-roots c = omega (arith, c.count_of-n.ensures)

pub offset_bounds-roots-n : goal.offset_bounds-roots-n
unfolding root_count root_room
offset_bounds-roots-n c = omega (arith, c.count_of-n.ensures)

pub bounds-roots-n : goal.bounds-roots-n
unfolding root_count root_room
bounds-roots-n c = omega (arith, c.count_of-n.ensures)

pub overflow_add-roots-2 : goal.overflow_add-roots-2
unfolding root_count root_room
overflow_add-roots-2 c = omega (arith, c.count_of-n.ensures)

pub bounds-roots-0 : goal.bounds-roots-0
unfolding root_count root_room
bounds-roots-0 c = simp length-set (omega (arith, c.count_of-n.ensures))

pub returns : goal.returns
unfolding with_root
returns c = rw c.count_of-n.ensures
