use mathlib.Core.Path.{sym, ◌∙◌}
use borrow.Author.Tests.{not-true, not-false}
use Rattle.lower.proofs.Renames.{rename_loose, rename_stay, rename_two}
use Rattle.lower.proofs.redirect.rename_operands.Goals as goal

pub returns-then-not-node : goal.returns-then-not-node
returns-then-not-node c = rename_loose _ _ _ _ _ c.node_at-node.ensures (not-true _ c.if-not-node.true)

pub returns-in-None : goal.returns-in-None
returns-in-None c = rename_stay _ _ _ _ _ c.node_at-node.ensures (not-false _ c.if-not-node.false) (sym c.step_at-operands.ensures ∙ c.in-None.is)

pub returns-in-Some : goal.returns-in-Some
returns-in-Some c = rw (c.write_word-in-Some.ensures, c.rename-in-Some.ensures, c.write_word.ensures, c.rename.ensures) (rename_two _ _ _ _ _ c.node_at-node.ensures (not-false _ c.if-not-node.false) _ _ (sym c.step_at-operands.ensures ∙ c.in-Some.is))
