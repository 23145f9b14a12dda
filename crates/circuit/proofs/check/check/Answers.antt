use mathlib.Core.Path.{sym, ◌∙◌}
use Rattle.circuit.proofs.Checks.{header_refused, nodes_refused, order_decides}
use Rattle.circuit.proofs.check.check.Goals as goal

pub returns-then-bad_header : goal.returns-then-bad_header
returns-then-bad_header c = header_refused _ _ _ (sym c.bad_header.ensures ∙ c.if-bad_header.true)

pub any_bad-requires : goal.any_bad-requires
any_bad-requires c = sym c.bad_header.ensures ∙ c.if-bad_header.false

pub returns-then-any_bad : goal.returns-then-any_bad
returns-then-any_bad c = nodes_refused _ _ _ (sym c.bad_header.ensures ∙ c.if-bad_header.false) (sym c.any_bad.ensures ∙ c.if-any_bad.true)

pub sort-requires : goal.sort-requires
sort-requires c = (record { header = sym c.bad_header.ensures ∙ c.if-bad_header.false; good = sym c.any_bad.ensures ∙ c.if-any_bad.false; room = c.requires.1 }, c.requires.0)

pub returns : goal.returns
returns c = order_decides _ _ _ _ (sym c.bad_header.ensures ∙ c.if-bad_header.false) (sym c.any_bad.ensures ∙ c.if-any_bad.false) c.sort.ensures
