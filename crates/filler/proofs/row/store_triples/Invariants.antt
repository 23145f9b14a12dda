use mathlib.Core.Path.{◌≡◌}
use lib.Seq.{sets}
use Rattle.filler.specs.Rowing.{triples_for}
use Rattle.filler.proofs.row.store_triples.Given as goal

abbrev pub invariant-loop-k : goal.invariant-loop-k
invariant-loop-k l = l.part ≡ sets l.initial.part 0 (triples_for l.bases (l.words, l.triples) l.targets l.from l.k)
