use Rattle.circuit.specs.Rank.{at}
use lib.ListN.{drop}
use mathlib.Core.List.{map, foldr}
use mathlib.Core.Path.{◌≡◌}
use Prim.Native.Nat.{max}
use Rattle.read.proofs.degree.highest_entry.Given as goal

abbrev pub invariant-loop-i : goal.invariant-loop-i
invariant-loop-i l = max l.highest (foldr max 0 (map (at l.table) (drop l.i-index l.roots))) ≡ foldr max 0 (map (at l.table) l.roots)
