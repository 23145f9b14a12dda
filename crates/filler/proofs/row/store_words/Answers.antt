use Prim.Native.Nat.{◌<◌}
use mathlib.Core.Path.{ap, ◌∙◌}
use native.Mathlib.Omega.{arith}
use lib.ListN.{set, length-take}
use Rattle.std.proofs.lemmas.List.{get_or-take}
use Rattle.circuit.specs.Rank.{at}
use Rattle.filler.proofs.Stores.{words_none, words_next}
use Rattle.filler.proofs.row.store_words.Goals as goal

pub loop-k-init : goal.loop-k-init
loop-k-init c = words_none _ _ _

pub loop-k-preserved : goal.loop-k-preserved
loop-k-preserved c =
    let b : c.loop-k.k < c.args.many = omega (arith, length-take c.args.many c.args.targets.now, c.loop-k-test.true) in
    rw get_or-take (ap (λ (l : _). set l c.loop-k.k (at c.args.words.now (at c.args.targets.now c.loop-k.k))) c.loop-k.invariant ∙ words_next c.args.words.now c.args.targets.now c.args.part.now c.loop-k.k)
