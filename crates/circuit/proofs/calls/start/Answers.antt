use borrow.Author.Tests.{lt-ltb, le-ltb}
use mathlib.Core.Path.{sym, ◌∙◌}
use Rattle.layout.specs.Calls.{start_call}
use Rattle.layout.proofs.Refusals.{refusal_here, refusal_next, refusal_none, outcome_refused, outcome_accepted}
use Rattle.circuit.proofs.calls.start.Goals as goal

pub returns-then-m-lt-HEADER : goal.returns-then-m-lt-HEADER
unfolding start_call
returns-then-m-lt-HEADER c = sym (outcome_refused _ _ _ _ _ 0 (refusal_here 1 _ _ (lt-ltb _ _ c.if-m-lt-HEADER.true)))

pub returns : goal.returns
unfolding start_call
returns c = rw c.row_word.ensures (sym (outcome_accepted _ _ _ _ _ (refusal_next 1 _ _ (le-ltb _ _ c.if-m-lt-HEADER.false) ∙ refusal_none)))
