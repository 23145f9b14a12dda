use Rattle.layout.proofs.Valid.{valid_header, header_top}
use Rattle.build.proofs.Saving.{fillable}
use borrow.Author.Rules.{rules}
use Rattle.build.proofs.several.class_anew.Goals as goal

pub order_of-requires : goal.order_of-requires
order_of-requires c = (c.requires.circuit, (search rules, search rules))

pub class_tables-requires : goal.class_tables-requires
class_tables-requires c = fillable _ _ _ _ _ _ c.requires c.order_of.ensures (search rules) (header_top _ (valid_header _ c.requires.circuit))
