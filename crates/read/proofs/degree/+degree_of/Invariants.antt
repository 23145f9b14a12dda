use Rattle.circuit.specs.Rank.{at}
use Rattle.read.proofs.degree.+degree_of.Given as goal

abbrev pub decreases-degree_of : goal.decreases-degree_of
decreases-degree_of l = at l.rank.now l.i
