use Rattle.read.proofs.Lent.{table_uneven, table_even}
use Rattle.read.specs.Lent.{beyond_at}
use Rattle.read.specs.declared.table.Columns.{Columns}
use Rattle.layout.specs.Words.{used}
use Rattle.layout.specs.Lists.{any, up_to}
use mathlib.Core.Path.{sym, ap, ◌∙◌}
use Rattle.read.proofs.table.bad_table.Goals as goal

pub returns-then-is_uneven : goal.returns-then-is_uneven
returns-then-is_uneven c = table_uneven c.args.m.now c.args.main.now c.args.aux.now c.args.challenges.now _ (sym c.is_uneven.ensures ∙ c.if-is_uneven.true)

pub returns : goal.returns
returns c = c.any_beyond.ensures
    ∙ ap (λ (x : Columns). any (beyond_at c.args.m.now c.args.counts.now x) (up_to (used c.args.m.now))) c.columns_of-c.ensures
    ∙ table_even c.args.m.now c.args.main.now c.args.aux.now c.args.challenges.now _ _ c.requires.valid c.requires.ids c.requires.counted (sym c.is_uneven.ensures ∙ c.if-is_uneven.false)
