use Rattle.layout.specs.declared.refusal.Refusal.TheVariants.{BadWord}
use mathlib.Core.Path.{sym, ◌∙◌, refl}
use Rattle.layout.proofs.Refusals.{refusal_here, refusal_next}
use Rattle.building.specs.Calls.{extension_call}
use Rattle.kept.proofs.Asking.{kept_refused, kept_call, words_good}
use Rattle.kept.proofs.nodes.extension.Goals as goal

pub returns-then-bad_words : goal.returns-then-bad_words
unfolding extension_call
returns-then-bad_words c = kept_refused _ _ _ _ c.requires _ _ BadWord 4 refl (refusal_here 5 _ _ (sym c.bad_words.ensures ∙ c.if-bad_words.true))

pub leaf-requires : goal.leaf-requires
leaf-requires c = record { buildable = c.requires; good = rw c.constant.ensures (words_good _ _ (sym c.bad_words.ensures ∙ c.if-bad_words.false)) }

pub returns : goal.returns
unfolding extension_call
returns c = kept_call _ _ _ _ c.requires _ _ _ _ _ _ _ (refusal_next 5 _ _ (sym c.bad_words.ensures ∙ c.if-bad_words.false)) (rw c.constant.ensures at c.leaf.ensures)
