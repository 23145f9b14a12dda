use Rattle.fillable.proofs.Tested.{counted_beyond}
use Rattle.paths.proofs.Counts.{valid_top}
use mathlib.Core.Path.{◌∙◌}
use native.Mathlib.Omega.{arith}
use Rattle.fillable.proofs.rows.reads_beyond.Goals as goal

pub any_beyond-requires : goal.any_beyond-requires
any_beyond-requires c = let t = valid_top _ c.requires.valid in record { valid = c.requires.valid; room = omega (arith, c.count_paths.auto.counts) }

pub returns : goal.returns
returns c = c.any_beyond.ensures ∙ counted_beyond _ _ _ _ c.requires.valid c.requires.ids c.count_paths.ensures
