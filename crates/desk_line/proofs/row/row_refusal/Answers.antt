use mathlib.Core.Path.{sym, ◌∙◌}
use borrow.Author.Tests.{not-true, not-false}
use Rattle.desk_line.proofs.Widths.{narrow, not_lowered_lem, refused_wide, refused_rows, no_refusal}
use Rattle.desk_line.proofs.row.row_refusal.Goals as goal

pub returns-then-not-latest : goal.returns-then-not-latest
returns-then-not-latest c = not_lowered_lem _ _ _ (not-true _ c.if-not-latest.true)

pub returns-then-too_wide : goal.returns-then-too_wide
returns-then-too_wide c = refused_wide _ _ _ (not-false _ c.if-not-latest.false) (sym c.too_wide.ensures ∙ c.if-too_wide.true)

pub is_rows-requires : goal.is_rows-requires
is_rows-requires c = (narrow _ (sym c.too_wide.ensures ∙ c.if-too_wide.false), c.requires)

pub returns-then-is_rows : goal.returns-then-is_rows
returns-then-is_rows c = no_refusal _ _ _ (not-false _ c.if-not-latest.false) (sym c.too_wide.ensures ∙ c.if-too_wide.false) (sym c.is_rows.ensures ∙ c.if-is_rows.true)

pub returns : goal.returns
returns c = refused_rows _ _ _ (not-false _ c.if-not-latest.false) (sym c.too_wide.ensures ∙ c.if-too_wide.false) (sym c.is_rows.ensures ∙ c.if-is_rows.false)
