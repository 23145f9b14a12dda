use mathlib.Core.Path.{sym, ◌∙◌}
use Rattle.layout.proofs.Valid.{valid_length, valid_fits}
use Rattle.build_calls.proofs.Wording.{leaf_here, leaf_nowhere}
use Rattle.build_calls.proofs.leaves.find_leaf.Goals as goal

pub bounds-m-1 : goal.bounds-m-1
bounds-m-1 c = valid_length _ c.requires.circuit

pub has_words-requires : goal.has_words-requires
has_words-requires c = valid_fits _ c.requires.circuit _ c.loop-i-test.true

pub returns-then-has_words : goal.returns-then-has_words
returns-then-has_words c = leaf_here _ _ c.requires _ _ c.words_of-w.ensures c.loop-i-test.true c.loop-i.invariant (sym c.has_words.ensures ∙ c.if-has_words.true)

pub returns : goal.returns
returns c = leaf_nowhere _ _ c.requires _ _ c.words_of-w.ensures c.loop-i-test.false c.loop-i.invariant
