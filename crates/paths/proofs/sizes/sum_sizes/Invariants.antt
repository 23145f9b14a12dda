use Prim.Native.Nat.{min}
use mathlib.Core.Path.{◌≡◌}
use lib.ListN.{length, take}
use Rattle.walking.specs.Paths.{walks}
use Rattle.paths.proofs.sizes.sum_sizes.Given as goal

abbrev pub invariant-loop-root : goal.invariant-loop-root
invariant-loop-root l = l.sum ≡ min l.top (length (walks l.m (take l.root-index l.roots)))
