use Rattle.std.proofs.Common.{arith}
use Rattle.read.proofs.Degrees.{degree_two}
use Rattle.read.proofs.Tables.{asked_fits, ask_left, ask_right, told_known, told_word}
use Rattle.read.specs.Degrees.{degree_to, degree_join}
use Rattle.read.specs.Tables.{itself}
use lib.ListN.{length-set}
use mathlib.Core.Path.{refl, sym, ◌∙◌}
use Rattle.read.proofs.degree.+degree_of.Goals as goal

pub step_at-s-requires : goal.step_at-s-requires
step_at-s-requires t c = asked_fits c.requires

pub degree_of-a-requires : goal.degree_of-a-requires
degree_of-a-requires t c = let a = ask_left c.requires _ (sym c.step_at-s.ensures ∙ c.in-Some.is) _ refl in
    (omega (arith, a.0), a.1)

pub degree_of-b-requires : goal.degree_of-b-requires
degree_of-b-requires t c = let a = ask_right c.requires _ (sym c.step_at-s.ensures ∙ c.in-Some.is) _ c.degree_of-a.auto.table in
    (omega (arith, a.0), a.1)

pub returns-in-None : goal.returns-in-None
returns-in-None t c = told_known itself _ _ _ _ _ c.requires.here refl (sym c.step_at-s.ensures ∙ c.in-None.is)

pub shape_of-table : goal.shape_of-table
shape_of-table t c = rw length-set (c.degree_of-b.auto.table ∙ c.degree_of-a.auto.table)

pub returns-in-Some : goal.returns-in-Some
returns-in-Some t c = told_word degree_join (degree_to _) c.degree_of-a.new.table c.degree_of-b.new.table _ _ _ _ (degree_two _ c.requires.ranked.valid) c.requires (sym c.step_at-s.ensures ∙ c.in-Some.is) c.degree_of-a.auto.table c.degree_of-b.auto.table c.degree_of-a.ensures c.degree_of-b.ensures c.degree_over-d.ensures
