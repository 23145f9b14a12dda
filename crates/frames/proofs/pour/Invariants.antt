-- What has been fed is what was taken of the part.
use Rattle.std.proofs.Common.{◌-◌, ◌≤◌, length, take}
use Rattle.framing.specs.States.{lent}
use Rattle.kept.specs.Keeps.{Keeps}
use Rattle.stream.specs.Stream.{stream, Poured}
use Rattle.stream.specs.Frames.{frames_program}
use Rattle.frames.proofs.pour.Given as goal

abbrev pub invariant-loop-from : goal.invariant-loop-from
invariant-loop-from g l = record {
  poured : Poured frames_program (stream (lent l.initial.m l.initial.roots l.initial.main l.initial.aux) (take l.fn.kept l.initial.line)) (take l.from l.part) (lent l.m l.roots l.main l.aux) l.line l.count;
  within : l.from ≤ length l.part;
  keeps : Keeps l.m l.numbers l.table l.least;
}

abbrev pub decreases-loop-from : goal.decreases-loop-from
decreases-loop-from g l = length l.part - l.from
