use Prim.Native.Nat.{◌-◌, ◌≤◌}
use lib.ListN.{length, take}
use Rattle.framing.specs.States.{lent}
use Rattle.stream.specs.Stream.{stream, fed, Advanced}
use Rattle.desk.specs.Desks.{desk}
use Rattle.desk_line.specs.Feeds.{fill_program, Deskable}
use Rattle.desk_line.proofs.Feeding.{DeskLengths}
use Rattle.desk_line.proofs.feed.feed.Given as goal

abbrev pub invariant-loop-taken : goal.invariant-loop-taken
invariant-loop-taken l = Advanced (fed fill_program (stream (desk (lent l.initial.m l.initial.roots l.initial.main l.initial.aux) l.initial.s.latest (take l.initial.s.given l.initial.challenges)) (take l.initial.s.kept l.initial.line)) (take l.taken l.part)) (desk (lent l.m l.roots l.main l.aux) l.s.latest (take l.s.given l.challenges)) (take l.s.kept l.line) l.initial.out 0 l.out l.s.at × (DeskLengths l.initial.m l.initial.roots l.initial.main l.initial.aux l.initial.numbers l.initial.table l.initial.least l.initial.challenges l.initial.row_main l.initial.row_aux l.initial.line l.initial.out l.m l.roots l.main l.aux l.numbers l.table l.least l.challenges l.row_main l.row_aux l.line l.out × ((l.s.kept ≤ 131075) × ((l.taken ≤ length l.part) × Deskable l.m l.numbers l.table l.least l.main l.aux l.challenges l.s.given l.row_main l.row_aux)))

abbrev pub decreases-loop-taken : goal.decreases-loop-taken
decreases-loop-taken l = length l.part - l.taken
