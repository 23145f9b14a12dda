use Prim.Native.Nat.{◌-◌, ◌≤◌}
use lib.ListN.{length, take}
use Rattle.framing.specs.States.{lent}
use Rattle.kept.specs.Keeps.{Keeps}
use Rattle.stream.specs.Stream.{stream, fed, Advanced}
use Rattle.stream.specs.Frames.{frames_program}
use Rattle.stream.proofs.Feeding.{Lengths}
use Rattle.stream.proofs.feed.feed.Given as goal

abbrev pub invariant-loop-taken : goal.invariant-loop-taken
invariant-loop-taken l = Advanced (fed frames_program (stream (lent l.initial.m l.initial.roots l.initial.main l.initial.aux) (take l.kept l.initial.line)) (take l.taken l.part)) (lent l.m l.roots l.main l.aux) (take l.s.kept l.line) l.initial.out 0 l.out l.s.at × (Lengths l.initial.m l.initial.roots l.initial.main l.initial.aux l.initial.numbers l.initial.table l.initial.least l.initial.line l.initial.out l.m l.roots l.main l.aux l.numbers l.table l.least l.line l.out × ((l.s.kept ≤ 51) × ((l.taken ≤ length l.part) × Keeps l.m l.numbers l.table l.least)))

abbrev pub decreases-loop-taken : goal.decreases-loop-taken
decreases-loop-taken l = length l.part - l.taken
