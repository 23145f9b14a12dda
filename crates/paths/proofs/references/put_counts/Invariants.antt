use mathlib.Core.Path.{◌≡◌}
use Rattle.layout.specs.Lists.{up_to, each}
use Rattle.circuit.specs.Rank.{at}
use Rattle.paths.specs.Rising.{put}
use Rattle.paths.proofs.references.put_counts.Given as goal

abbrev pub invariant-loop-i : goal.invariant-loop-i
invariant-loop-i l = l.m ≡ each (λ x j. put x j (at l.counts j)) l.initial.m (up_to l.i)
