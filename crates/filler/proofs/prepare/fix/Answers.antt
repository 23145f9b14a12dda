use mathlib.Core.Path.{ap, ◌∙◌}
use Rattle.layout.proofs.Valid.{valid_length, valid_fits}
use Rattle.layout.specs.declared.node.Expression.{Expression}
use Rattle.filler.specs.Planning.{fixed_one}
use Rattle.filler.proofs.Fixes.{fixing_room, fixing_next}
use Rattle.filler.proofs.prepare.fix.Goals as goal

pub bounds-m-1 : goal.bounds-m-1
bounds-m-1 c = valid_length _ c.requires.0

pub expression_at-requires : goal.expression_at-requires
expression_at-requires c = valid_fits _ c.requires.0 _ c.loop-i-test.true

pub fix_node-requires : goal.fix_node-requires
fix_node-requires c = fixing_room _ c.args.challenges.now _ _ _ _ _ c.requires.0 c.requires.1 c.loop-i.invariant c.loop-i-test.true

pub loop-i-preserved : goal.loop-i-preserved
loop-i-preserved c = fixing_next _ _ _ _ _ _ _ c.requires.0 c.requires.1 c.loop-i.invariant c.loop-i-test.true _ _ (c.fix_node.ensures ∙ ap (λ (x : Expression). fixed_one c.args.challenges.now c.loop-i.i x (c.loop-i.words, c.loop-i.triples)) c.expression_at.ensures)
