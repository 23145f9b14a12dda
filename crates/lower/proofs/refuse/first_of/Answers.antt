use Rattle.layout.specs.Outcomes.{refusal}
use Rattle.lower.proofs.refuse.first_of.Goals as goal

pub returns-then-loose : goal.returns-then-loose
unfolding refusal
returns-then-loose c = rw c.if-loose.true

pub returns-then-columns : goal.returns-then-columns
unfolding refusal
returns-then-columns c = rw (c.if-loose.false, c.if-columns.true)

pub returns-then-paths : goal.returns-then-paths
unfolding refusal
returns-then-paths c = rw (c.if-loose.false, c.if-columns.false, c.if-paths.true)

pub returns-then-full : goal.returns-then-full
unfolding refusal
returns-then-full c = rw (c.if-loose.false, c.if-columns.false, c.if-paths.false, c.if-full.true)

pub returns-then-room : goal.returns-then-room
unfolding refusal
returns-then-room c = rw (c.if-loose.false, c.if-columns.false, c.if-paths.false, c.if-full.false, c.if-room.true)

pub returns : goal.returns
unfolding refusal
returns c = rw (c.if-loose.false, c.if-columns.false, c.if-paths.false, c.if-full.false, c.if-room.false)
