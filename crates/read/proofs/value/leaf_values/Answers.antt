use Rattle.read.proofs.Values.{filling_triple}
use Rattle.read.specs.Values.{value_start, value_entry}
use Rattle.reading.specs.Calls.{assigned}
use Rattle.layout.proofs.Valid.{valid_length, valid_fits}
use mathlib.Core.Path.{ap, ◌∙◌}
use native.Mathlib.Omega.{arith}
use Rattle.read.proofs.value.leaf_values.Goals as goal

pub bounds-m-1 : goal.bounds-m-1
bounds-m-1 c = valid_length _ c.requires.valid

pub expression_at-requires : goal.expression_at-requires
expression_at-requires c = valid_fits _ c.requires.valid _ c.loop-i-test.true

pub loop-i-preserved : goal.loop-i-preserved
loop-i-preserved c = rw c.keep.ensures (filling_triple _ (value_start (assigned _ _ _) _) _ _ (omega (arith, c.requires.room, c.loop-i.auto.table, c.loop-i-test.true)) c.loop-i.invariant (c.leaf_value.ensures ∙ ap (value_entry (assigned _ _ _)) c.expression_at.ensures))
