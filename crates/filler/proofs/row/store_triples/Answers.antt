use mathlib.Core.Path.{ap₂, ◌∙◌}
use Rattle.read.specs.Values.{put_triple}
use Rattle.filler.proofs.Stores.{triples_none, triples_next}
use Rattle.filler.proofs.row.store_triples.Goals as goal

pub loop-k-init : goal.loop-k-init
loop-k-init c = triples_none c.args.bases.now (c.args.words.now, c.args.triples.now) _ c.args.from _

pub loop-k-preserved : goal.loop-k-preserved
loop-k-preserved c = c.keep.ensures ∙ ap₂ (λ l x. put_triple l c.loop-k.k x) c.loop-k.invariant c.triple_for-x.ensures ∙ triples_next c.args.bases.now (c.args.words.now, c.args.triples.now) c.args.targets.now c.args.from c.args.part.now c.loop-k.k
