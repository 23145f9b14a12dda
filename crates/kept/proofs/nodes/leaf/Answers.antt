use Rattle.kept.proofs.Asking.{kept_ends}
use Rattle.kept.proofs.nodes.leaf.Goals as goal

pub returns : goal.returns
returns c = kept_ends _ _ _ _ _ _ _ _ c.answered.ensures c.find_or_make.ensures
