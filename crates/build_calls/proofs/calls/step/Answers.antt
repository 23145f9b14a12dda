use Rattle.build_calls.proofs.calls.step.Goals as goal

pub operate-requires : goal.operate-requires
operate-requires c = let g = rw c.in-Operation.is at c.requires.good in record { buildable = c.requires.buildable; left = g.0; right = g.1 }

pub negate-requires : goal.negate-requires
negate-requires c = let g = rw c.in-Negate.is at c.requires.good in record { buildable = c.requires.buildable; left = g; right = g }

pub subtract-requires : goal.subtract-requires
subtract-requires c = let g = rw c.in-Subtract.is at c.requires.good in record { buildable = c.requires.buildable; left = g.0; right = g.1 }

pub returns-in-Operation : goal.returns-in-Operation
returns-in-Operation c = rw c.in-Operation.is c.operate.ensures

pub returns-in-Negate : goal.returns-in-Negate
returns-in-Negate c = rw c.in-Negate.is c.negate.ensures

pub returns-in-Subtract : goal.returns-in-Subtract
returns-in-Subtract c = rw c.in-Subtract.is c.subtract.ensures
