use mathlib.Core.Path.{refl, sym, ap, ◌∙◌}
use native.Mathlib.Omega.{arith}
use Rattle.layout.specs.Answers.{answer_number}
use Rattle.layout.proofs.Unique.{number_some}
use Rattle.desk_line.proofs.Fills.{as_kind, its_narrow, row_refused, row_answered}
use Rattle.desk_line.proofs.row.put_answer.Goals as goal

pub returns-in-Err : goal.returns-in-Err
returns-in-Err c = λ roots. row_refused _ c.args.m.now c.args.main.now c.args.aux.now c.args.challenges.now _ roots _ _ c.kind_of-rows.ensures c.requires.kind (sym (ap answer_number c.in-Err.is) ∙ c.row_refusal.ensures) (λ z. number_some c.in-Err.r (sym z)) (rw c.number_of.ensures at c.put_byte.ensures)

pub read_tables-requires : goal.read_tables-requires
read_tables-requires c = (its_narrow _ c.args.m.now c.args.main.now c.args.aux.now c.args.challenges.now _ c.args.m.now _ _ c.kind_of-rows.ensures c.requires.kind (sym (ap answer_number c.in_default.is) ∙ c.row_refusal.ensures) refl, (as_kind _ _ c.kind_of-rows.ensures c.requires.kind, c.requires.places))

pub fill_tables-filled-requires : goal.fill_tables-filled-requires
fill_tables-filled-requires c = (its_narrow _ c.args.m.now c.args.main.now c.args.aux.now c.args.challenges.now _ c.args.m.now _ _ c.kind_of-rows.ensures c.requires.kind (sym (ap answer_number c.in_default.is) ∙ c.row_refusal.ensures) refl, record { kind = c.requires.kind; places = record { mains = omega (arith, c.read_tables.auto.row_main, c.requires.places.mains); auxs = omega (arith, c.read_tables.auto.row_aux, c.requires.places.auxs) } })

pub put_row-requires : goal.put_row-requires
put_row-requires c = (its_narrow _ c.args.m.now c.args.main.now c.args.aux.now c.args.challenges.now _ c.args.m.now _ _ c.kind_of-rows.ensures c.requires.kind (sym (ap answer_number c.in_default.is) ∙ c.row_refusal.ensures) refl, record { mains = omega (arith, c.fill_tables-filled.auto.row_main, c.read_tables.auto.row_main, c.requires.places.mains); auxs = omega (arith, c.fill_tables-filled.auto.row_aux, c.read_tables.auto.row_aux, c.requires.places.auxs) })

pub returns : goal.returns
returns c = λ roots. row_answered _ c.args.m.now c.args.main.now c.args.aux.now c.args.challenges.now _ roots _ _ c.kind_of-rows.ensures c.requires.kind (sym (ap answer_number c.in_default.is) ∙ c.row_refusal.ensures) refl _ _ _ _ _ _ _ c.read_tables.ensures.0 c.read_tables.ensures.1 c.fill_tables-filled.ensures c.put_row.ensures
