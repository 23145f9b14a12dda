use Rattle.abi.proofs.Signed.{below-zero, cast_fits, from_zero}
use Rattle.abi.proofs.answers.signed_word.Goals as goal

pub returns-then-d-lt0 : goal.returns-then-d-lt0
returns-then-d-lt0 c = below-zero _ c.ranges.d c.if-d-lt0.true

pub overflow_cast-result : goal.overflow_cast-result
overflow_cast-result c = cast_fits _ c.ranges.d c.if-d-lt0.false

pub returns : goal.returns
returns c = from_zero _ c.ranges.d c.if-d-lt0.false
