use Rattle.classes.specs.Table.{listed}
use Rattle.classes.proofs.Chains.{Going}
use Rattle.classes.proofs.table.seek.Given as goal

abbrev pub invariant-loop-v : goal.invariant-loop-v
invariant-loop-v l = Going l.table (listed l.w) l.v

abbrev pub decreases-loop-v : goal.decreases-loop-v
decreases-loop-v l = l.v
