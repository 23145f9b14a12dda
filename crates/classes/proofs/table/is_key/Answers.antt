use Rattle.std.proofs.Common.{rules, tests}
use Rattle.layout.specs.Lists.{same_words}
use Rattle.classes.specs.Table.{entry}
use Rattle.classes.proofs.table.is_key.Goals as goal

pub returns-then-table-at-3 : goal.returns-then-table-at-3
unfolding entry same_words
returns-then-table-at-3 c = search (rules, tests)

pub returns-else-table-at-3 : goal.returns-else-table-at-3
unfolding entry same_words
returns-else-table-at-3 c = search (rules, tests)
