use Rattle.framing.specs.Digits.{bytes_of}
use Rattle.desk_line.proofs.Challenges.{Left}
use Rattle.desk_line.proofs.given.any_bad.Given as goal

abbrev pub invariant-loop-k : goal.invariant-loop-k
invariant-loop-k l = Left l.n l.k l.after (bytes_of l.line)
