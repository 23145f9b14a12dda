use Rattle.std.proofs.Common.{rules}
use Rattle.read.proofs.Lists.{any_three}
use Rattle.layout.specs.NotCircuit.{bad_word}
use Rattle.read.proofs.table.bad_given.Goals as goal
use Rattle.read.proofs.table.bad_given.Goals.{then-any_bad, else-any_bad}

pub returns-then-any_bad-2 : goal.returns-then-any_bad-2
returns-then-any_bad-2 c = let h = any_three bad_word c.args.main.now c.args.aux.now c.args.challenges.now in elim c.if-any_bad.branch [ then-any_bad w ↦ search rules | else-any_bad w ↦ search rules ]

pub returns-else-any_bad-2 : goal.returns-else-any_bad-2
returns-else-any_bad-2 c = let h = any_three bad_word c.args.main.now c.args.aux.now c.args.challenges.now in elim c.if-any_bad.branch [ then-any_bad w ↦ search rules | else-any_bad w ↦ search rules ]
