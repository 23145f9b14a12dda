-- `field_abi::field_chain` meets its contract: what is left of the chain ends where the whole does. Assumes nothing.
use native.Mathlib.Omega.{arith}
use Rattle.field_abi.proofs.Turns.{all_left, one_less, no_more}
use Rattle.field_abi.proofs.field_chain.Goals as goal

pub loop-init : goal.loop-init
loop-init c = all_left _ _ c.args.n

pub loop-preserved : goal.loop-preserved
loop-preserved c = one_less c.loop.invariant (omega arith) c.multiply-z.ensures

pub returns : goal.returns
returns c = no_more c.loop.invariant (omega arith)
