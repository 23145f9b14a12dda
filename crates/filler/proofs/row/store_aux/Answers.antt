use Rattle.filler.proofs.Rowings.{wide-requires, stored_aux}
use Rattle.filler.proofs.row.store_aux.Goals as goal

pub store_triples-requires : goal.store_triples-requires
store_triples-requires c = wide-requires c.args.s c.args.r c.args.aux.now c.args.targets.now c.args.bases.now c.args.words.now c.args.triples.now c.requires

pub returns : goal.returns
returns c = stored_aux c.args.s c.args.r c.args.aux.now c.args.targets.now c.args.bases.now c.args.words.now c.args.triples.now c.requires _ c.store_triples.ensures
