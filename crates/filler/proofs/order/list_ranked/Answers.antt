use Prim.Native.Nat.{◌<◌}
use native.Mathlib.Omega.{arith}
use lib.ListN.{length-take}
use Rattle.std.proofs.lemmas.List.{get_or-take}
use Rattle.filler.specs.Ranking.{ByRank}
use Rattle.filler.proofs.Ranks.{by_rank_next, by_rank_skip}
use Rattle.filler.proofs.order.list_ranked.Goals as goal
use Rattle.filler.proofs.order.list_ranked.Goals.{then-q-n, else-q-n}

pub loop-i-preserved : goal.loop-i-preserved
loop-i-preserved c =
    let b : c.loop-i.i < c.args.n = omega (arith, length-take c.args.n c.args.rank.now, c.loop-i-test.true) in
    let h = c.loop-i.invariant in
    elim c.if-q-n.branch [
      | then-q-n w ↦ rw (w.order-is, get_or-take) (by_rank_next c.loop-i.order c.args.rank.now _ c.loop-i.i c.requires.0 b (rw get_or-take at w.if-q-n.true) (omega arith) h)
      | else-q-n w ↦ rw w.order-is (by_rank_skip c.loop-i.order c.args.rank.now _ c.loop-i.i (rw get_or-take at w.if-q-n.false) h)
    ]

pub returns : goal.returns
unfolding ByRank
returns c = λ i l. c.loop-i.invariant i (omega (arith, length-take c.args.n c.args.rank.now, c.loop-i-test.false))
