-- What has been fed is what was taken of the part.
use Rattle.std.proofs.Common.{◌-◌, ◌≤◌, length, take}
use Rattle.framing.specs.States.{lent}
use Rattle.stream.specs.Stream.{stream, Poured}
use Rattle.desk.specs.Desks.{desk}
use Rattle.desk_line.specs.Feeds.{fill_program, Deskable}
use Rattle.fill.proofs.pour.Given as goal

abbrev pub invariant-loop-from : goal.invariant-loop-from
invariant-loop-from g l = record {
  poured : Poured fill_program (stream (desk (lent l.initial.m l.initial.roots l.initial.main l.initial.aux) l.fn.kept.latest (take l.fn.kept.given l.initial.challenges)) (take l.fn.kept.kept l.initial.line)) (take l.from l.part) (desk (lent l.m l.roots l.main l.aux) l.s.latest (take l.s.given l.challenges)) l.line l.s.kept;
  within : l.from ≤ length l.part;
  deskable : Deskable l.m l.numbers l.table l.least l.main l.aux l.challenges l.s.given l.row_main l.row_aux;
}

abbrev pub decreases-loop-from : goal.decreases-loop-from
decreases-loop-from g l = length l.part - l.from
