-- Few characters are kept of a line, and what is kept from line to line fits.
use Rattle.std.proofs.Common.{◌≤◌}
use Rattle.desk_line.specs.Feeds.{Deskable}
use Rattle.fill.proofs.serve.Given as goal

abbrev pub invariant-loop : goal.invariant-loop
invariant-loop g l = record {
  few : l.s.kept ≤ 131075;
  deskable : Deskable l.m l.numbers l.table l.least l.main l.aux l.challenges l.s.given l.row_main l.row_aux;
}
