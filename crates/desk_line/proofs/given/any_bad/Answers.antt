use Rattle.desk_line.proofs.Challenges.{left_all, bad_here, left_less, left_none}
use Rattle.desk_line.proofs.given.any_bad.Goals as goal

pub loop-k-init : goal.loop-k-init
loop-k-init c = left_all _ _ _

pub returns-then-bad_word : goal.returns-then-bad_word
returns-then-bad_word c = bad_here _ _ _ _ c.loop-k.invariant c.loop-k-test.true _ _ c.number.ensures c.bad_word.ensures c.if-bad_word.true

pub loop-k-preserved : goal.loop-k-preserved
loop-k-preserved c = left_less _ _ _ _ c.loop-k.invariant c.loop-k-test.true _ _ c.number.ensures c.bad_word.ensures c.if-bad_word.false

pub returns : goal.returns
returns c = left_none _ _ _ _ c.loop-k.invariant c.loop-k-test.false
