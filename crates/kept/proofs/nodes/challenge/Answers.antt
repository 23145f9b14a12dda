use Rattle.layout.specs.declared.refusal.Refusal.TheVariants.{BadIndex}
use mathlib.Core.Path.{sym, ◌∙◌, refl}
use Rattle.layout.proofs.Refusals.{refusal_here, refusal_next}
use Rattle.building.specs.Calls.{challenge_call}
use Rattle.kept.proofs.Asking.{kept_refused, kept_call, challenge_good}
use Rattle.kept.proofs.nodes.challenge.Goals as goal

pub returns-then-bad_index : goal.returns-then-bad_index
unfolding challenge_call
returns-then-bad_index c = kept_refused _ _ _ _ c.requires _ _ BadIndex 3 refl (refusal_here 4 _ _ (sym c.bad_index.ensures ∙ c.if-bad_index.true))

pub leaf-requires : goal.leaf-requires
leaf-requires c = record { buildable = c.requires; good = challenge_good _ _ (sym c.bad_index.ensures ∙ c.if-bad_index.false) }

pub returns : goal.returns
unfolding challenge_call
returns c = kept_call _ _ _ _ c.requires _ _ _ _ _ _ _ (refusal_next 4 _ _ (sym c.bad_index.ensures ∙ c.if-bad_index.false)) c.leaf.ensures
