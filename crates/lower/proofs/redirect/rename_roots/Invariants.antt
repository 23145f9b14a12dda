use mathlib.Core.Path.{◌≡◌}
use Rattle.lowering.specs.Lowering.{renamed}
use Rattle.lower.proofs.Renames.{mapped}
use Rattle.lower.proofs.redirect.rename_roots.Given as goal

abbrev pub invariant-loop-root : goal.invariant-loop-root
invariant-loop-root l = l.root-items ≡ mapped (renamed l.s l.n) l.root-index l.initial.root-items
