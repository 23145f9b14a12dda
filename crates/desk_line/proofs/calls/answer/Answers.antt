use mathlib.Core.Path.{sym}
use native.Mathlib.Omega.{arith}
use lib.ListN.{take}
use lib.Seq.{length-take-le}
use Rattle.framing.specs.States.{lent}
use Rattle.desk_line.proofs.Lines.{called_challenges, called_row, called_frame, row_kind_lem}
use Rattle.desk_line.proofs.calls.answer.Goals as goal

pub returns-then-kind-eq1 : goal.returns-then-kind-eq1
returns-then-kind-eq1 c = (called_challenges (lent c.args.m.now c.args.roots.now c.args.main.now c.args.aux.now) c.args.latest (take c.args.given c.args.challenges.now) c.args.line.now c.args.answer.now _ c.line_kind-kind.ensures c.if-kind-eq1.true _ (c.challenges_line-k.ensures.0 (lent c.args.m.now c.args.roots.now c.args.main.now c.args.aux.now) c.args.latest), (c.requires.0, c.challenges_line-k.ensures.1))

pub slice_bounds-words-end-then-kind-eq2 : goal.slice_bounds-words-end-then-kind-eq2
slice_bounds-words-end-then-kind-eq2 c = sym (length-take-le _ _ (omega (arith, c.requires.1.few, c.requires.1.room)))

pub row_line-written-requires : goal.row_line-written-requires
row_line-written-requires c = record { kind = row_kind_lem _ _ _ _ _ _ c.line_kind-kind.ensures c.if-kind-eq2.true c.requires.0; places = c.requires.1.places }

pub returns-then-kind-eq2 : goal.returns-then-kind-eq2
returns-then-kind-eq2 c = (called_row (lent c.args.m.now c.args.roots.now c.args.main.now c.args.aux.now) c.args.latest (take c.args.given c.args.challenges.now) c.args.line.now c.args.answer.now _ c.line_kind-kind.ensures c.if-kind-eq2.true _ (c.row_line-written.ensures c.args.roots.now), (c.requires.0, c.requires.1.few))

pub returns : goal.returns
returns c = (called_frame (lent c.args.m.now c.args.roots.now c.args.main.now c.args.aux.now) c.args.latest (take c.args.given c.args.challenges.now) c.args.line.now c.args.answer.now _ c.line_kind-kind.ensures c.if-kind-eq1.false c.if-kind-eq2.false _ (c.frame_line-f.ensures.0 (take c.args.given c.args.challenges.now)), (c.frame_line-f.ensures.1, c.requires.1.few))
