-- `field_abi::field_triple_chain` meets its contract: what is left of the chain ends where the whole does. Assumes nothing.
use mathlib.Core.Path.{ap}
use native.Mathlib.Omega.{arith}
use Rattle.field_abi.proofs.Turns.{all_left, one_less, no_more}
use Rattle.arithmetic.specs.declared.Triple.{Triple}
use Rattle.field_abi.proofs.field_triple_chain.Goals as goal

pub loop-init : goal.loop-init
loop-init c = all_left _ _ c.args.n

pub loop-preserved : goal.loop-preserved
loop-preserved c = one_less c.loop.invariant (omega arith) c.multiply-z.ensures

pub returns : goal.returns
returns c = ap (λ (z : Triple). z.c0) (no_more c.loop.invariant (omega arith))
