use mathlib.Core.Path.{◌≡◌}
use mathlib.Core.Bool.{false}
use Rattle.layout.specs.Lists.{any, up_to}
use Rattle.layout.specs.NotCircuit.{bad_node}
use Rattle.circuit.proofs.check.any_bad.Given as goal

abbrev pub invariant-loop-i : goal.invariant-loop-i
invariant-loop-i l = any (bad_node l.m) (up_to l.i) ≡ false
