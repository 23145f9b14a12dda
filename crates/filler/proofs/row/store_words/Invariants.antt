use mathlib.Core.Path.{◌≡◌}
use lib.Seq.{sets}
use Rattle.filler.specs.Rowing.{words_for}
use Rattle.filler.proofs.row.store_words.Given as goal

abbrev pub invariant-loop-k : goal.invariant-loop-k
invariant-loop-k l = l.part ≡ sets l.initial.part 0 (words_for l.words l.targets l.k)
