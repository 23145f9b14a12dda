use Rattle.read.proofs.Values.{value_leaves}
use Rattle.read.specs.Values.{value_at}
use Rattle.reading.specs.Calls.{assigned}
use Rattle.paths.proofs.Counts.{valid_top}
use mathlib.Core.Path.{◌∙◌}
use native.Mathlib.Omega.{arith}
use Rattle.read.proofs.value.value_at.Goals as goal

pub leaf_values-requires : goal.leaf_values-requires
leaf_values-requires c = record { valid = c.requires.ranked.valid; room = omega (arith, valid_top _ c.requires.ranked.valid) }

pub find_below-requires : goal.find_below-requires
find_below-requires c = record { ranked = c.requires.ranked; counts_room = c.requires.counts_room; room = omega (arith, valid_top _ c.requires.ranked.valid, c.leaf_values.auto.table) }

pub find_value-requires : goal.find_value-requires
find_value-requires c = record { ranked = c.requires.ranked; room = omega (arith, valid_top _ c.requires.ranked.valid, c.leaf_values.auto.table, c.find_below.auto.table); here = c.requires.here }

pub entry_at-requires : goal.entry_at-requires
entry_at-requires c = omega (arith, valid_top _ c.requires.ranked.valid, c.requires.here, c.leaf_values.auto.table, c.find_below.auto.table, c.find_value.auto.table)

pub returns : goal.returns
unfolding value_at
returns c = let s = assigned c.args.main.now c.args.aux.now c.args.challenges.now in
    c.entry_at.ensures ∙ (c.find_value.ensures s (c.find_below.ensures s (value_leaves s _ c.requires.ranked.valid _ c.leaf_values.ensures))).here
