-- `field::base::reduced` meets its contract: what its two calls ensure, put together, is one law. Assumes nothing.
use Rattle.std.proofs.Common.{◌∙◌}
use Rattle.field.proofs.Words.{folds}
use Rattle.field.proofs.base.reduced.Goals as goal

pub returns : goal.returns
returns c = c.sum.ensures ∙ folds _ _ c.difference.ensures
