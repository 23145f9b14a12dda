use mathlib.Core.Path.{◌≡◌}
use Rattle.framing.specs.Digits.{bytes_of, number_at}
use Rattle.frame.proofs.digits.number.Given as goal

abbrev pub invariant-loop-k : goal.invariant-loop-k
invariant-loop-k l = l.n ≡ number_at l.k l.after (bytes_of l.line)
