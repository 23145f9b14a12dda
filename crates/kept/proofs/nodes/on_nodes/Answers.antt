use Rattle.layout.proofs.Valid.{valid_length}
use Rattle.kept.proofs.Asking.{left_refused, right_refused, both_ends}
use Rattle.kept.proofs.nodes.on_nodes.Goals as goal

pub bounds-m-1 : goal.bounds-m-1
bounds-m-1 c = valid_length _ c.requires.buildable.circuit

pub returns-then-m-a : goal.returns-then-m-a
returns-then-m-a c = left_refused _ _ _ _ c.requires.buildable _ _ _ c.if-m-a.true

pub bounds-m-1-2 : goal.bounds-m-1-2
bounds-m-1-2 c = valid_length _ c.requires.buildable.circuit

pub returns-then-m-b : goal.returns-then-m-b
returns-then-m-b c = right_refused _ _ _ _ c.requires.buildable _ _ _ c.if-m-a.false c.if-m-b.true

pub step-requires : goal.step-requires
step-requires c = record { buildable = c.requires.buildable; good = c.requires.good c.if-m-a.false c.if-m-b.false }

pub returns : goal.returns
returns c = both_ends _ _ _ _ c.requires.buildable _ _ _ _ _ _ _ _ _ c.if-m-a.false c.if-m-b.false c.answered.ensures c.step.ensures
