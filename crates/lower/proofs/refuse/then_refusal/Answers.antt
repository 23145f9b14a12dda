use native.Mathlib.Omega.{arith}
use Rattle.layout.proofs.Valid.{valid_length}
use Rattle.paths.proofs.Counts.{valid_top}
use Rattle.lower.proofs.Refuses.{heavy_few, then_told}
use Rattle.lower.proofs.refuse.then_refusal.Goals as goal

pub survey-requires : goal.survey-requires
survey-requires c = let p = c.requires.0 in record { valid = p.valid; ids = p.ids; order_room = omega arith; rank_room = omega arith; degrees_room = omega arith; counts_room = omega arith }

pub bounds-m-1 : goal.bounds-m-1
bounds-m-1 c = valid_length _ c.requires.0.valid

pub high_nodes-heavy-requires : goal.high_nodes-heavy-requires
high_nodes-heavy-requires c = let t = valid_top c.args.m.now c.requires.0.valid in omega arith

pub any_loose-requires : goal.any_loose-requires
any_loose-requires c = c.requires.0.valid

pub bad_columns-requires : goal.bad_columns-requires
bad_columns-requires c = c.requires.0.valid

pub over_occurrences-requires : goal.over_occurrences-requires
over_occurrences-requires c = let k = c.survey.auto.order in (c.requires.0.valid, (c.survey.ensures.sorted, omega arith))

pub too_full-requires : goal.too_full-requires
too_full-requires c = (c.requires.0.valid, heavy_few _ _ _ _ _ _ c.requires.0 c.survey.ensures _ _ (valid_top _ c.requires.0.valid) c.high_nodes-heavy.ensures)

pub returns : goal.returns
returns c = then_told _ _ _ _ _ _ _ _ _ _ _ c.requires c.survey.ensures _ _ c.high_nodes-heavy.ensures _ _ _ _ _
    c.any_loose.ensures c.bad_columns.ensures c.over_occurrences.ensures c.too_full.ensures c.too_short.ensures _
    c.first_of.ensures
