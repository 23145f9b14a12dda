use native.Mathlib.Omega.{arith}
use Rattle.framing.specs.States.{root_room, root_count}
use Rattle.frame.proofs.Responding.{lower_told, lower_empty, roots_part, roots_back}
use Rattle.frame.proofs.respond.lower_frame.Goals as goal

pub returns-then-roots-eq0 : goal.returns-then-roots-eq0
returns-then-roots-eq0 c = lower_empty _ _ _ _ _ _ _ c.lower.result _ _ _ _ _ c.counts_of.ensures c.if-roots-eq0.true c.lower.auto.roots c.lower.ensures

pub overflow_add-end : goal.overflow_add-end
unfolding root_count root_room
overflow_add-end c = omega (arith, c.count_of-end.ensures)

pub slice_bounds-lower-end : goal.slice_bounds-lower-end
unfolding root_count root_room
slice_bounds-lower-end c = omega (arith, c.count_of-end.ensures)

pub returns : goal.returns
returns c = lower_told _ _ _ _ _ _ c.args.roots.now c.lower-2.result _ _ c.lower-2.new.roots _ _ _ c.counts_of-2.ensures (rw (roots_part c.args.roots.now _ c.count_of-end.ensures c.if-roots-eq0.false) at c.lower-2.ensures) (roots_back c.args.roots.now _ c.count_of-end.ensures c.if-roots-eq0.false c.lower-2.new.roots c.lower-2.auto.roots)
