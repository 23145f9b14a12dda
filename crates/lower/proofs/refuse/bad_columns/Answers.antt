use Rattle.std.proofs.Common.{rules}
use Rattle.lower.specs.Refusing.{columns_for}
use Rattle.lower.proofs.refuse.bad_columns.Goals as goal
use Rattle.lower.proofs.refuse.bad_columns.Goals.{then-any_at_or_above, else-any_at_or_above}

pub returns-then-too_wide : goal.returns-then-too_wide
unfolding columns_for
returns-then-too_wide c = elim c.if-any_at_or_above.branch [ then-any_at_or_above w ↦ search rules | else-any_at_or_above w ↦ search rules ]

pub returns-else-too_wide : goal.returns-else-too_wide
unfolding columns_for
returns-else-too_wide c = elim c.if-any_at_or_above.branch [ then-any_at_or_above w ↦ search rules | else-any_at_or_above w ↦ search rules ]
