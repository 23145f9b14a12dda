use Rattle.circuit.specs.Rank.{at}
use Rattle.read.proofs.value.+find_value.Given as goal

abbrev pub decreases-find_value : goal.decreases-find_value
decreases-find_value l = at l.rank.now l.i
