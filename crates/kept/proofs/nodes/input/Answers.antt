use Rattle.layout.specs.declared.refusal.Refusal.TheVariants.{BadIndex, BadRow}
use mathlib.Core.Path.{sym, ap, ◌∙◌, refl}
use Rattle.layout.specs.NotCircuit.{bad_index}
use Rattle.layout.proofs.Refusals.{refusal_here, refusal_next}
use Rattle.layout.proofs.Valid.{valid_length}
use Rattle.building.specs.Calls.{input_call}
use Rattle.kept.proofs.Asking.{kept_refused, kept_call, input_good}
use Rattle.kept.proofs.nodes.input.Goals as goal

pub bad_row-requires : goal.bad_row-requires
bad_row-requires c = valid_length _ c.requires.circuit

pub returns-then-bad_row : goal.returns-then-bad_row
unfolding input_call
returns-then-bad_row c = kept_refused _ _ _ _ c.requires _ _ BadRow 2 refl (refusal_here 3 _ _ (sym c.bad_row.ensures ∙ c.if-bad_row.true))

pub returns-then-bad_index : goal.returns-then-bad_index
unfolding input_call
returns-then-bad_index c = kept_refused _ _ _ _ c.requires _ _ BadIndex 3 refl (refusal_next 3 _ _ (sym c.bad_row.ensures ∙ c.if-bad_row.false) ∙ refusal_here 4 _ _ (ap bad_index (sym c.column_of.ensures) ∙ sym c.bad_index.ensures ∙ c.if-bad_index.true))

pub leaf-requires : goal.leaf-requires
leaf-requires c = record { buildable = c.requires; good = input_good _ _ (sym c.bad_row.ensures ∙ c.if-bad_row.false) (ap bad_index (sym c.column_of.ensures) ∙ sym c.bad_index.ensures ∙ c.if-bad_index.false) }

pub returns : goal.returns
unfolding input_call
returns c = kept_call _ _ _ _ c.requires _ _ _ _ _ _ _ (refusal_next 3 _ _ (sym c.bad_row.ensures ∙ c.if-bad_row.false) ∙ refusal_next 4 _ _ (ap bad_index (sym c.column_of.ensures) ∙ sym c.bad_index.ensures ∙ c.if-bad_index.false)) c.leaf.ensures
