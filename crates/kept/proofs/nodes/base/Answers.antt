use Rattle.layout.specs.declared.refusal.Refusal.TheVariants.{BadWord}
use mathlib.Core.Path.{sym, ◌∙◌, refl}
use Rattle.layout.proofs.Refusals.{refusal_here, refusal_next}
use Rattle.building.specs.Calls.{base_call}
use Rattle.kept.proofs.Asking.{kept_refused, kept_call, base_good}
use Rattle.kept.proofs.nodes.base.Goals as goal

pub returns-then-bad_word : goal.returns-then-bad_word
unfolding base_call
returns-then-bad_word c = kept_refused _ _ _ _ c.requires _ _ BadWord 4 refl (refusal_here 5 _ _ (sym c.bad_word.ensures ∙ c.if-bad_word.true))

pub leaf-requires : goal.leaf-requires
leaf-requires c = record { buildable = c.requires; good = base_good _ _ (sym c.bad_word.ensures ∙ c.if-bad_word.false) }

pub returns : goal.returns
unfolding base_call
returns c = kept_call _ _ _ _ c.requires _ _ _ _ _ _ _ (refusal_next 5 _ _ (sym c.bad_word.ensures ∙ c.if-bad_word.false)) c.leaf.ensures
