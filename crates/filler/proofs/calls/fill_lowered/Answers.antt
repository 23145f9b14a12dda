use native.Mathlib.Omega.{arith}
use mathlib.Core.Path.{sym, ◌∙◌}
use Rattle.paths.proofs.Counts.{valid_top}
use Rattle.read.proofs.Tables.{sorted_ranked}
use Rattle.filling.proofs.Cleared.{kind_one}
use Rattle.filler.proofs.Outcomes.{rows_some, columns_fit, refused_lowered, all_passed, all_within, all_filled}
use Rattle.filler.proofs.calls.fill_lowered.Goals as goal

pub bases-requires : goal.bases-requires
bases-requires c = let t = valid_top _ c.requires.listing.valid in record { ranked = sorted_ranked _ _ _ c.requires.listing.valid c.requires.listing.sorted; room = omega arith }

pub not_lowered-requires : goal.not_lowered-requires
not_lowered-requires c = let f = columns_fit _ _ _ _ _ _ _ _ _ _ _ c.requires in let t = valid_top _ c.requires.listing.valid in record { listing = c.requires.listing; bases_room = omega arith; base_bits = c.bases.ensures; targets_room = omega arith; main_fits = omega arith; aux_fits = omega arith }

pub returns-then-not_lowered : goal.returns-then-not_lowered
returns-then-not_lowered c = refused_lowered _ _ _ _ _ _ _ _ _ _ _ c.requires (sym c.not_lowered.ensures.told ∙ c.if-not_lowered.true)

pub shape_of-s-requires : goal.shape_of-s-requires
shape_of-s-requires c = let k = kind_one _ c.requires.listing.valid in let r = rows_some _ _ _ _ _ _ _ _ _ _ _ c.requires in omega arith

pub filled_rows-filled-requires : goal.filled_rows-filled-requires
filled_rows-filled-requires c = (c.requires.listing.valid, rows_some _ _ _ _ _ _ _ _ _ _ _ c.requires)

pub fill_all-requires : goal.fill_all-requires
fill_all-requires c = let e = c.shape_of-s.ensures.0 in let f = c.filled_rows-filled.ensures in rw (e, f) (record { passed = all_passed _ _ _ _ _ _ _ _ _ _ _ c.requires _ (sym c.not_lowered.ensures.told ∙ c.if-not_lowered.false) (c.not_lowered.ensures.found c.if-not_lowered.false) c.shape_of-s.ensures.1.0 c.shape_of-s.ensures.1.1; base_bits = c.bases.ensures; bases_room = omega arith; targets_room = omega arith; within = all_within _ _ _ _ _ _ _ _ _ _ _ c.requires })

pub returns : goal.returns
returns c = let e = c.shape_of-s.ensures.0 in let f = c.filled_rows-filled.ensures in all_filled _ _ _ _ _ _ _ _ _ _ _ c.requires (sym c.not_lowered.ensures.told ∙ c.if-not_lowered.false) _ _ (rw (e, f) at c.fill_all.ensures)
