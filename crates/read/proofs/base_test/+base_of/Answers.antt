use Rattle.std.proofs.Common.{arith}
use Rattle.read.proofs.Bases.{base_two}
use Rattle.read.proofs.Tables.{asked_fits, ask_left, ask_right, told_known, told_word}
use Rattle.read.specs.Bases.{base_bit, base_join}
use Rattle.read.specs.Tables.{itself}
use lib.ListN.{length-set}
use mathlib.Core.Path.{refl, sym, ◌∙◌}
use Rattle.read.proofs.base_test.+base_of.Goals as goal

pub step_at-s-requires : goal.step_at-s-requires
step_at-s-requires t c = asked_fits c.requires

pub base_of-a-requires : goal.base_of-a-requires
base_of-a-requires t c = let a = ask_left c.requires _ (sym c.step_at-s.ensures ∙ c.in-Some.is) _ refl in
    (omega (arith, a.0), a.1)

pub base_of-b-requires : goal.base_of-b-requires
base_of-b-requires t c = let a = ask_right c.requires _ (sym c.step_at-s.ensures ∙ c.in-Some.is) _ c.base_of-a.auto.table in
    (omega (arith, a.0), a.1)

pub returns-in-None : goal.returns-in-None
returns-in-None t c = told_known itself _ _ _ _ _ c.requires.here refl (sym c.step_at-s.ensures ∙ c.in-None.is)

pub shape_of-table : goal.shape_of-table
shape_of-table t c = rw length-set (c.base_of-b.auto.table ∙ c.base_of-a.auto.table)

pub returns-in-Some : goal.returns-in-Some
returns-in-Some t c = told_word base_join (base_bit _) c.base_of-a.new.table c.base_of-b.new.table _ _ _ _ (base_two _ c.requires.ranked.valid) c.requires (sym c.step_at-s.ensures ∙ c.in-Some.is) c.base_of-a.auto.table c.base_of-b.auto.table c.base_of-a.ensures c.base_of-b.ensures c.base_over-d.ensures
