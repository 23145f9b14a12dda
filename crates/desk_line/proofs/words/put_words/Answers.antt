use native.Mathlib.Omega.{arith}
use Rattle.desk_line.proofs.Texts.{words_unwritten, words_behind, words_one_more, words_all}
use Rattle.desk_line.proofs.words.put_words.Goals as goal

pub loop-w-init : goal.loop-w-init
loop-w-init c = words_unwritten _ _ c.args.words.now

pub put_eight-next-requires : goal.put_eight-next-requires
put_eight-next-requires c = omega (arith, words_behind _ _ _ _ _ _ c.loop-w.invariant c.loop-w.auto.w-index-end)

pub loop-w-preserved : goal.loop-w-preserved
loop-w-preserved c = words_one_more _ _ _ _ _ _ c.loop-w.invariant _ _ c.loop-w-test.true c.put_eight-next.ensures

pub returns : goal.returns
returns c = words_all _ _ _ _ _ _ c.loop-w.invariant c.loop-w-test.false
