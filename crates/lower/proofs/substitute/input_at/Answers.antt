use Rattle.lower.proofs.substitute.input_at.Goals as goal

pub returns-then-main : goal.returns-then-main
returns-then-main c = rw c.if-main.true

pub returns : goal.returns
returns c = rw c.if-main.false
