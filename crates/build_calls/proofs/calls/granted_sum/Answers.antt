use Rattle.build_calls.proofs.Endings.{tables_fillable, ends}
use borrow.Author.Rules.{rules}
use Rattle.build_calls.proofs.calls.granted_sum.Goals as goal

pub class_tables-requires : goal.class_tables-requires
class_tables-requires c = tables_fillable _ _ _ _ _ _ c.requires.ranked (record { numbers = search rules; keys = search rules }) (search rules)

pub returns : goal.returns
returns c = ends _ _ _ _ _ _ _ _ c.answered.ensures c.sum.ensures
