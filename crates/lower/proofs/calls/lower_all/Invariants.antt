use mathlib.Core.Path.{◌≡◌}
use lib.ListN.{length}
use Rattle.lower.proofs.Turns.{Turning, left}
use Rattle.lower.proofs.calls.lower_all.Given as goal

abbrev pub invariant-loop-next : goal.invariant-loop-next
invariant-loop-next l = Turning l.target l.main_count l.aux_count (record { circuit = l.initial.m; roots = l.initial.roots; main = l.initial.main; aux = l.initial.aux }) (record { circuit = l.m; roots = l.roots; main = l.main; aux = l.aux }) l.progress
    × ((length l.m ≡ length l.initial.m) × ((length l.roots ≡ length l.initial.roots) × ((length l.main ≡ length l.initial.main) × (length l.aux ≡ length l.initial.aux))))

abbrev pub decreases-loop-next : goal.decreases-loop-next
decreases-loop-next l = left (record { circuit = l.initial.m; roots = l.initial.roots; main = l.initial.main; aux = l.initial.aux }) l.progress
