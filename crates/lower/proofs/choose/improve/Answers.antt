use mathlib.Core.Path.{sym, ◌∙◌}
use Rattle.lower.specs.Tables.{improved}
use Rattle.lower.proofs.choose.improve.Goals as goal

pub returns-then-not-is_candidate : goal.returns-then-not-is_candidate
unfolding improved
returns-then-not-is_candidate c = rw (sym c.is_candidate.ensures ∙ c.if-not-is_candidate.true)

pub returns : goal.returns
unfolding improved
returns c = rw (sym c.is_candidate.ensures ∙ c.if-not-is_candidate.false, ← c.entry-2.ensures, ← c.entry.ensures) c.better.ensures
