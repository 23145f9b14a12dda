use mathlib.Core.Path.{sym, ◌∙◌}
use Rattle.desk_line.proofs.Lines.{kind_unstarted, kind_other_first, kind_challenges, kind_row, kind_other}
use Rattle.desk_line.proofs.calls.line_kind.Goals as goal

pub returns-then-kind_of-eq0 : goal.returns-then-kind_of-eq0
returns-then-kind_of-eq0 c = kind_unstarted _ _ (sym c.kind_of.ensures ∙ c.if-kind_of-eq0.true)

pub returns-then-at-ne48 : goal.returns-then-at-ne48
returns-then-at-ne48 c = kind_other_first _ _ (λ z. c.if-kind_of-eq0.false (c.kind_of.ensures ∙ z)) (λ e. c.if-at-ne48.true (c.at.ensures ∙ e))

pub returns-then-second-eq98 : goal.returns-then-second-eq98
returns-then-second-eq98 c = kind_challenges _ _ (λ z. c.if-kind_of-eq0.false (c.kind_of.ensures ∙ z)) (sym c.at.ensures ∙ c.if-at-ne48.false) (sym c.at-second.ensures ∙ c.if-second-eq98.true)

pub returns-then-second-eq99 : goal.returns-then-second-eq99
returns-then-second-eq99 c = kind_row _ _ (λ z. c.if-kind_of-eq0.false (c.kind_of.ensures ∙ z)) (sym c.at.ensures ∙ c.if-at-ne48.false) (sym c.at-second.ensures ∙ c.if-second-eq99.true)

pub returns : goal.returns
returns c = kind_other _ _ (λ z. c.if-kind_of-eq0.false (c.kind_of.ensures ∙ z)) (sym c.at.ensures ∙ c.if-at-ne48.false) (λ e. c.if-second-eq98.false (c.at-second.ensures ∙ e)) (λ e. c.if-second-eq99.false (c.at-second.ensures ∙ e))
