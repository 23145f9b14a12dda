use Rattle.circuit.specs.Rank.{at}
use Rattle.read.proofs.base_test.+base_of.Given as goal

abbrev pub decreases-base_of : goal.decreases-base_of
decreases-base_of l = at l.rank.now l.i
