use Rattle.filler.proofs.Rowings.{stored_main}
use Rattle.filler.proofs.row.store_main.Goals as goal

pub returns : goal.returns
returns c = stored_main c.args.s c.args.r c.args.main.now c.args.targets.now c.args.words.now c.requires _ c.store_words.ensures
