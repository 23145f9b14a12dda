use native.Mathlib.Omega.{arith}
use Rattle.layout.proofs.Valid.{valid_fits}
use Rattle.filler.specs.Planning.{planned}
use Rattle.filler.proofs.Instructions.{column_small, source_join, source_known}
use Rattle.filler.proofs.plan.plan_node.Goals as goal

pub expression_at-requires : goal.expression_at-requires
expression_at-requires c = valid_fits _ c.requires.valid _ c.requires.here

pub source_of-source-requires : goal.source_of-source-requires
source_of-source-requires c = (c.requires.small, column_small _ c.requires.valid _ c.requires.here _ c.expression_at.ensures)

pub offset_bounds-targets-k : goal.offset_bounds-targets-k
offset_bounds-targets-k c = let h = c.requires.item _ (source_known c.args.s _ _ _ _ c.expression_at.ensures c.source_of-source.ensures c.in-Item.is) in omega arith

pub bounds-targets-k : goal.bounds-targets-k
bounds-targets-k c = (c.requires.item _ (source_known c.args.s _ _ _ _ c.expression_at.ensures c.source_of-source.ensures c.in-Item.is)).0

pub plan_item-requires : goal.plan_item-requires
plan_item-requires c = let h = c.requires.item _ (source_known c.args.s _ _ _ _ c.expression_at.ensures c.source_of-source.ensures c.in-Item.is) in let a = c.requires.bases_room in let b = c.requires.alias_room in let i = c.requires.here in (omega arith, (omega arith, omega arith))

pub offset_bounds-bases-l : goal.offset_bounds-bases-l
offset_bounds-bases-l c = let (l, r) = source_join _ c.requires.valid _ c.args.s c.requires.here (source_known c.args.s _ _ _ _ c.expression_at.ensures c.source_of-source.ensures c.in-Join.is) in let a = c.requires.bases_room in let b = c.requires.alias_room in omega arith

pub bounds-bases-l : goal.bounds-bases-l
bounds-bases-l c = let (l, r) = source_join _ c.requires.valid _ c.args.s c.requires.here (source_known c.args.s _ _ _ _ c.expression_at.ensures c.source_of-source.ensures c.in-Join.is) in let a = c.requires.bases_room in let b = c.requires.alias_room in omega arith

pub offset_bounds-bases-r : goal.offset_bounds-bases-r
offset_bounds-bases-r c = let (l, r) = source_join _ c.requires.valid _ c.args.s c.requires.here (source_known c.args.s _ _ _ _ c.expression_at.ensures c.source_of-source.ensures c.in-Join.is) in let a = c.requires.bases_room in let b = c.requires.alias_room in omega arith

pub bounds-bases-r : goal.bounds-bases-r
bounds-bases-r c = let (l, r) = source_join _ c.requires.valid _ c.args.s c.requires.here (source_known c.args.s _ _ _ _ c.expression_at.ensures c.source_of-source.ensures c.in-Join.is) in let a = c.requires.bases_room in let b = c.requires.alias_room in omega arith

pub offset_bounds-alias-l : goal.offset_bounds-alias-l
offset_bounds-alias-l c = let (l, r) = source_join _ c.requires.valid _ c.args.s c.requires.here (source_known c.args.s _ _ _ _ c.expression_at.ensures c.source_of-source.ensures c.in-Join.is) in let a = c.requires.bases_room in let b = c.requires.alias_room in omega arith

pub bounds-alias-l : goal.bounds-alias-l
bounds-alias-l c = let (l, r) = source_join _ c.requires.valid _ c.args.s c.requires.here (source_known c.args.s _ _ _ _ c.expression_at.ensures c.source_of-source.ensures c.in-Join.is) in let a = c.requires.bases_room in let b = c.requires.alias_room in omega arith

pub offset_bounds-alias-r : goal.offset_bounds-alias-r
offset_bounds-alias-r c = let (l, r) = source_join _ c.requires.valid _ c.args.s c.requires.here (source_known c.args.s _ _ _ _ c.expression_at.ensures c.source_of-source.ensures c.in-Join.is) in let a = c.requires.bases_room in let b = c.requires.alias_room in omega arith

pub bounds-alias-r : goal.bounds-alias-r
bounds-alias-r c = let (l, r) = source_join _ c.requires.valid _ c.args.s c.requires.here (source_known c.args.s _ _ _ _ c.expression_at.ensures c.source_of-source.ensures c.in-Join.is) in let a = c.requires.bases_room in let b = c.requires.alias_room in omega arith

pub returns-in-Fixed : goal.returns-in-Fixed
unfolding planned
returns-in-Fixed c = rw (source_known c.args.s _ _ _ _ c.expression_at.ensures c.source_of-source.ensures c.in-Fixed.is)

pub returns-in-Word : goal.returns-in-Word
unfolding planned
returns-in-Word c = rw (source_known c.args.s _ _ _ _ c.expression_at.ensures c.source_of-source.ensures c.in-Word.is)

pub returns-in-Wide : goal.returns-in-Wide
unfolding planned
returns-in-Wide c = rw (source_known c.args.s _ _ _ _ c.expression_at.ensures c.source_of-source.ensures c.in-Wide.is)

pub returns-in-Item : goal.returns-in-Item
unfolding planned
returns-in-Item c = rw (source_known c.args.s _ _ _ _ c.expression_at.ensures c.source_of-source.ensures c.in-Item.is) c.plan_item.ensures

pub returns-in-Join : goal.returns-in-Join
unfolding planned
returns-in-Join c = rw (source_known c.args.s _ _ _ _ c.expression_at.ensures c.source_of-source.ensures c.in-Join.is) c.join.ensures
