-- Few characters are kept of a line, and the tables fit the circuit.
use Rattle.std.proofs.Common.{◌≤◌}
use Rattle.kept.specs.Keeps.{Keeps}
use Rattle.frames.proofs.serve.Given as goal

abbrev pub invariant-loop : goal.invariant-loop
invariant-loop g l = record {
  few : l.kept ≤ 51;
  keeps : Keeps l.m l.numbers l.table l.least;
}
