-- `field::base::difference` meets its contract: each way out is linear. Assumes nothing.
use Rattle.std.proofs.Common.{arith, rules}
use Rattle.field.specs.Words.{plain, around}
use Rattle.field.proofs.base.difference.Goals as goal

pub returns-then-a-b : goal.returns-then-a-b
returns-then-a-b c = around (search rules) (omega arith)

pub returns-else-a-b : goal.returns-else-a-b
returns-else-a-b c = plain (search rules) (omega arith)
