use Rattle.std.proofs.Common.{ap, not}
use mathlib.Core.Path.{sym, ◌∙◌}
use Rattle.layout.proofs.Refusals.{refuses, accepts}
use Rattle.layout.proofs.Valid.{valid_length}
use Rattle.filler.proofs.Outcomes.{told_circuit, told_main_ids, told_aux_ids, told_table, told_words}
use Rattle.filler.proofs.calls.fill_rows.Goals as goal
use Rattle.filler.proofs.calls.fill_rows.Goals.{then-bad_id-via-then-bad_id, then-bad_id-via-else-bad_id+then-bad_id-2}

pub returns-then-not-check : goal.returns-then-not-check
returns-then-not-check c = told_circuit _ _ _ _ _ _ _ _ _ (refuses _ _ c.check.ensures.told (ap not c.if-not-check.true))

pub bad_id-requires : goal.bad_id-requires
bad_id-requires c = valid_length _ (accepts _ _ c.check.ensures.told (ap not c.if-not-check.false))

pub bad_id-requires-else-bad_id : goal.bad_id-requires-else-bad_id
bad_id-requires-else-bad_id c = valid_length _ (accepts _ _ c.check.ensures.told (ap not c.if-not-check.false))

pub returns-then-bad_id : goal.returns-then-bad_id
returns-then-bad_id c =
    let v = accepts _ _ c.check.ensures.told (ap not c.if-not-check.false) in
    elim c.then-bad_id.branch [
      | then-bad_id-via-then-bad_id w ↦ told_main_ids _ _ _ _ _ _ _ _ _ v (sym c.bad_id.ensures ∙ w.if-bad_id.true)
      | then-bad_id-via-else-bad_id+then-bad_id-2 w ↦ told_aux_ids _ _ _ _ _ _ _ _ _ v (sym w.bad_id-else-bad_id.ensures ∙ w.if-bad_id-2.true)
    ]

pub returns-then-bad_rows : goal.returns-then-bad_rows
returns-then-bad_rows c = told_table _ _ _ _ _ _ _ _ _ (accepts _ _ c.check.ensures.told (ap not c.if-not-check.false)) (sym c.bad_id.ensures ∙ c.if-bad_id.false) (sym c.bad_id-else-bad_id.ensures ∙ c.if-bad_id-2.false) (sym c.bad_rows.ensures ∙ c.if-bad_rows.true)

pub returns-then-bad_given : goal.returns-then-bad_given
returns-then-bad_given c = told_words _ _ _ _ _ _ _ _ _ (accepts _ _ c.check.ensures.told (ap not c.if-not-check.false)) (sym c.bad_id.ensures ∙ c.if-bad_id.false) (sym c.bad_id-else-bad_id.ensures ∙ c.if-bad_id-2.false) (sym c.bad_rows.ensures ∙ c.if-bad_rows.false) (sym c.bad_given.ensures ∙ c.if-bad_given.true)
