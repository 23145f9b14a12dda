use Rattle.paths.proofs.Counts.{valid_top}
use borrow.Author.Rules.{rules}
use Rattle.paths.proofs.sizes.walk_length.Goals as goal

pub sum_sizes-requires : goal.sum_sizes-requires
sum_sizes-requires c = let v = c.requires in record { sizes_told = c.tree_sizes.ensures; ids = v.ids; top_nodes = valid_top _ v.valid; room = search rules; small = v.small }
