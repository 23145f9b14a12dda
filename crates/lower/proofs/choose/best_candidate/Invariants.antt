use mathlib.Core.Path.{◌≡◌}
use Rattle.layout.specs.Lists.{each, up_to}
use Rattle.lower.specs.Tables.{candidate_of, improved}
use Rattle.lower.proofs.Selects.{nothing}
use Rattle.lower.proofs.choose.best_candidate.Given as goal

abbrev pub invariant-loop-i : goal.invariant-loop-i
invariant-loop-i l = candidate_of l.best ≡ each (improved l.degrees l.occurrences l.target) nothing (up_to l.i)
