use mathlib.Core.Path.{◌≡◌}
use Rattle.layout.specs.Lists.{each, up_to}
use Rattle.lowering.specs.Lowering.{rename_operands}
use Rattle.lower.proofs.redirect.redirect.Given as goal

abbrev pub invariant-loop-i : goal.invariant-loop-i
invariant-loop-i l = l.m ≡ each (rename_operands l.s l.n) l.initial.m (up_to l.i)
