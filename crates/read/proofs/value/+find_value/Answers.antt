use Rattle.read.proofs.Values.{told_triple}
use Rattle.read.proofs.Tables.{asked_fits, ask_left, ask_right, told_known}
use Rattle.read.specs.Values.{first_word}
use mathlib.Core.Path.{refl, sym, ◌∙◌}
use native.Mathlib.Omega.{arith}
use Rattle.read.proofs.value.+find_value.Goals as goal

pub step_at-s-requires : goal.step_at-s-requires
step_at-s-requires t c = asked_fits c.requires

pub find_value-requires : goal.find_value-requires
find_value-requires t c = let a = ask_left c.requires _ (sym c.step_at-s.ensures ∙ c.in-Some.is) _ refl in
    (omega (arith, a.0), a.1)

pub find_value-requires-in-Some : goal.find_value-requires-in-Some
find_value-requires-in-Some t c = let a = ask_right c.requires _ (sym c.step_at-s.ensures ∙ c.in-Some.is) _ c.find_value.auto.table in
    (omega (arith, a.0), a.1)

pub entry_at-requires : goal.entry_at-requires
entry_at-requires t c = let h = (ask_left c.requires _ (sym c.step_at-s.ensures ∙ c.in-Some.is) c.args.table.now refl).1.here in
    omega (arith, c.requires.room, c.find_value.auto.table, c.find_value-in-Some.auto.table)

pub entry_at-requires-in-Some : goal.entry_at-requires-in-Some
entry_at-requires-in-Some t c = let h = (ask_right c.requires _ (sym c.step_at-s.ensures ∙ c.in-Some.is) c.args.table.now refl).1.here in
    omega (arith, c.requires.room, c.find_value.auto.table, c.find_value-in-Some.auto.table)

pub keep-requires : goal.keep-requires
keep-requires t c = let r = c.requires.room in
    let h = c.requires.here in
    let p = c.find_value.auto.table in
    let q = c.find_value-in-Some.auto.table in
    omega arith

pub returns-in-None : goal.returns-in-None
returns-in-None t c = λ s. told_known first_word _ _ _ _ _ c.requires.here c.entry_at-known.ensures (sym c.step_at-s.ensures ∙ c.in-None.is)

pub shape_of-table-in-Some : goal.shape_of-table-in-Some
shape_of-table-in-Some t c = c.keep.auto.table ∙ c.find_value-in-Some.auto.table ∙ c.find_value.auto.table

pub returns-in-Some : goal.returns-in-Some
returns-in-Some t c = λ s. told_triple s c.find_value.new.table c.find_value-in-Some.new.table _ _ _ _ _ c.requires (sym c.step_at-s.ensures ∙ c.in-Some.is) c.find_value.auto.table c.find_value-in-Some.auto.table c.entry_at.ensures c.entry_at-in-Some.ensures c.keep.ensures (c.find_value.ensures s) (c.find_value-in-Some.ensures s) c.value_over-x.ensures
